use Rattle.std.proofs.Common.{◌≡◌, ◌∙◌, ◌++◌, ◌∷◌, [], sym, ap, subst, length, arith}
use Rattle.std.specs.Prelude.{vec_items, vec_len, flat_map}
use Rattle.journal_core.specs.Blocks.{AreFull}
use Rattle.journal_core.proofs.BlocksLemmas.{AreFull-push, flat_map-push}
use Rattle.journal_core.proofs.blocks.Blocks.reserve_one.Goals as goal

pub invariant_of-self-2 : goal.invariant_of-self-2
invariant_of-self-2 g c =
    let (full, short, counted) = c.self.invariant in
    let before = c.self.inside.full.items in
    let last = c.self.inside.last in
    let whole : length last.items ≡ 64 =
    let e = last.ok.0 in omega (arith, short, e, c.if-len-lt-BLOCK.false, c.len.ensures) in
    let more : c.push_reserved.new.self.items ≡ before ++ last ∷ [] =
    c.push_reserved.ensures.items ∙ (λ i. c.reserve-2.ensures.items i ++ c.replace.ensures.value i ∷ []) in
    let none : c.replace.new.dest.items ≡ [] = ap vec_items c.replace.ensures.after ∙ c.in_ok-next.ensures.items in
    let small : vec_len c.replace.new.dest ≡ 0 = ap vec_len c.replace.ensures.after ∙ c.in_ok-next.ensures.len in (
      subst (AreFull vec_items 64) (sym more) (AreFull-push vec_items 64 before last full whole),
      omega (arith, small),
      counted ∙ ap length (sym (flat_map-push vec_items before last) ∙ (λ i. flat_map vec_items (sym more i) ++ sym none i)),
    )
