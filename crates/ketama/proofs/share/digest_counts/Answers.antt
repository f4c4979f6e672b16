use Rattle.std.proofs.Common.{◌≤◌, ◌<◌, ◌^◌, ◌*◌, ◌/◌, ◌∙◌, length, map, sum, ap, sym, subst, arith}
use Rattle.std.proofs.lemmas.List.{take_all}
use Rattle.std.proofs.lemmas.Grind.{common_steps}
use Rattle.ketama.proofs.ShareLemmas.{weights_fit, counts_fit}
use Rattle.ketama.proofs.share.digest_counts.Goals as goal

pub sum-total-requires : goal.sum-total-requires
sum-total-requires c = weights_fit c.args.weights.now c.requires.few c.requires.weights.in_range

pub returns-clause-few : goal.returns-clause-few
returns-clause-few c =
    let weights = c.args.weights.now in
    let done : length weights ≤ c.loop-weight.weight-index = omega arith in
    subst (λ counts. sum counts < 2 ^ 32) (sym (c.loop-weight.invariant ∙ ap (map (λ w. 40 * length weights * w / sum weights)) (take_all c.loop-weight.weight-index weights done)))
    (counts_fit weights c.requires.few)

pub loop-weight-preserved : goal.loop-weight-preserved
loop-weight-preserved c = grind (arith, common_steps)
