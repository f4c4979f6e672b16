use Rattle.std.proofs.Common.{◌+◌, ◌-◌, ◌^◌, ◌≤◌, ◌∷◌, [], ℕ, List, min, sym, subst, append-nil, arith}
use Rattle.key_owners.specs.Lines.{IsOwnerLine, TakesIn, Telling, newline}
use Rattle.key_owners.proofs.TellingLemmas.{takes_newline, takes_other}
use Rattle.key_owners.proofs.lines.KeyLines.take_byte.Goals as goal

pub returns-then-byte-eq10-clause-ok : goal.returns-then-byte-eq10-clause-ok
returns-then-byte-eq10-clause-ok c =
    let (text, written, line) = c.in_ok-put_line.ensures.ok in
    let i = c.self.inside in
    let v : Telling = record { owners = i.owners; is_hex = i.is_hex; open_line = i.line.items; ended = i.ended } in
    let after : List ℕ → ℕ → Telling = λ open_line ended. record { owners = i.owners; is_hex = i.is_hex; open_line = open_line; ended = ended } in
    let told : IsOwnerLine v.owners v.is_hex v.open_line text = subst (λ (t : Telling). IsOwnerLine t.owners t.is_hex t.open_line text) (sym c.self.view_is) line in
    let takes = takes_newline v text c.self.invariant told in
    let cleared = subst (λ l. TakesIn v (newline ∷ []) (after l (min (i.ended + 1) (2 ^ 64 - 1))) text) (sym c.clear.ensures.items) takes in
    let counted = subst (λ n. TakesIn v (newline ∷ []) (after c.clear.new.self.items n) text) (sym c.saturating_add-self-inside.ensures) cleared in
    let ended = subst (λ b. TakesIn v (b ∷ []) (after c.clear.new.self.items c.saturating_add-self-inside.result) text) (sym c.if-byte-eq10.true) counted in
    (text, written, subst (λ (t : Telling). TakesIn t (c.args.byte ∷ []) (after c.clear.new.self.items c.saturating_add-self-inside.result) text) c.self.view_is ended)

pub returns-clause-ok : goal.returns-clause-ok
returns-clause-ok c =
    let i = c.self.inside in
    let v : Telling = record { owners = i.owners; is_hex = i.is_hex; open_line = i.line.items; ended = i.ended } in
    let after : List ℕ → Telling = λ open_line. record { owners = i.owners; is_hex = i.is_hex; open_line = open_line; ended = i.ended } in
    let bound : i.ended ≤ 2 ^ 64 - 1 = omega (arith, c.self.ranges) in
    let takes = takes_other v c.args.byte c.self.invariant bound c.if-byte-eq10.false in
    let pushed = subst (λ l. TakesIn v (c.args.byte ∷ []) (after l) []) (sym c.in_ok-push.ensures.items) takes in
    ([], sym (append-nil c.args.out.now.items), subst (λ (t : Telling). TakesIn t (c.args.byte ∷ []) (after c.push.new.self.items) []) c.self.view_is pushed)
