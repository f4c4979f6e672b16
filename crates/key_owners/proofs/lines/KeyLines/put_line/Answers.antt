use Rattle.std.proofs.Common.{◌++◌, ◌∷◌, [], Bool, ℕ, List, ap, sym, subst, ◌∙◌}
use Rattle.std.specs.Prelude.{Ok}
use Rattle.std.proofs.lemmas.Result.{on_ok_weaker}
use Rattle.hex.specs.Hex.{decode_of}
use Rattle.key_owners.specs.Lines.{IsKeyOf, IsOwnerLine, Telling, newline, tab}
use Rattle.key_owners.proofs.lines.KeyLines.put_line.Goals as goal

pub returns-in-Ok-clause-ok : goal.returns-in-Ok-clause-ok
returns-in-Ok-clause-ok c =
    let line = c.deref-in-Ok.result.now in
    let name = c.owner-in-Ok.result.now in
    let key = c.deref-in-Ok-2.result.now in
    let end : List ℕ = tab ∷ (name ++ newline ∷ []) in
    let own = c.self.inside.line.items in
    let decoded = ap decode_of (sym c.as_slice.ensures.value) ∙ c.in-Ok.ensures.ok ∙ ap (λ k. Ok k) (sym c.deref-in-Ok-2.ensures.value) in
    on_ok_weaker c.put_owner-in-Ok.result (λ e. (
      line ++ end,
      e,
      subst (λ (t : Telling). IsOwnerLine t.owners t.is_hex t.open_line (line ++ end)) c.self.view_is (record {
        key = key;
        name = name;
        written = subst (λ (h : Bool). IsKeyOf h own key) (sym c.if-not-self.false) decoded;
        owner = c.owner-in-Ok.ensures;
        parts = ap (λ l. l ++ end) c.deref-in-Ok.ensures.value;
      }),
    )) c.put_owner-in-Ok.ensures.ok
