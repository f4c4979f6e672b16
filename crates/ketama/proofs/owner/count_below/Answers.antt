use Rattle.std.proofs.Common.{◌≡◌, ◌+◌, ◌-◌, ◌/◌, ◌<◌, length, get_or, ltb, inl, inr, arith}
use Rattle.std.proofs.lemmas.Bool.{cases_Bool, ltb-true, ltb-false}
use Rattle.ketama.proofs.SortedPairLemmas.{all_below, none_below}
use Rattle.ketama.proofs.owner.count_below.Goals as goal

pub loop-unknown-preserved : goal.loop-unknown-preserved
loop-unknown-preserved c =
    let pairs = c.args.pairs.now in
    let point = c.args.point in
    let below = c.loop-unknown.below in
    let unknown = c.loop-unknown.unknown in
    let half = unknown - unknown / 2 in
    let last = below + half - 1 in
    let (in_list, all_below_point, none_below_point) = c.loop-unknown.invariant in
    let some : 0 < unknown = c.loop-unknown-test.true in
    let within : last < length pairs = omega (arith, in_list, some) in
    elim (cases_Bool (ltb (get_or pairs last (0, 0)).0 point)) [
      | inl before ↦
          let moved : c.one_of-below.result ≡ below + half = rw before at c.one_of-below.ensures in (
            omega (arith, moved, in_list, some),
            (λ k d first upto. all_below pairs point last c.requires within (ltb-true _ _ before) k d first (omega (arith, moved, upto, some))),
            (λ k d from upto. none_below_point k d (omega (arith, moved, from, some)) upto),
          )
      | inr behind ↦
          let stays : c.one_of-below.result ≡ below = rw behind at c.one_of-below.ensures in (
            omega (arith, stays, in_list, some),
            (λ k d first upto. all_below_point k d first (omega (arith, stays, upto))),
            (λ k d from upto. none_below pairs point last c.requires within (ltb-false _ _ behind) k d (omega (arith, stays, from, some)) upto),
          )
    ]
