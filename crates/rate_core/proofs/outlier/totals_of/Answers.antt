use Rattle.std.proofs.Common.{◌≤◌, None, refl, take, arith, length-append}
use Rattle.std.proofs.lemmas.List.Sums.{sum_by_push}
use Rattle.rate_core.specs.Outlier.{known_rates, square}
use Rattle.rate_core.proofs.KnownRateLemmas.{known_more_some, known_more_none, square_within}
use Rattle.rate_core.proofs.outlier.totals_of.Goals as goal
use Rattle.rate_core.proofs.outlier.totals_of.Goals.{in-Some, in_default}

pub loop-rate-preserved : goal.loop-rate-preserved
loop-rate-preserved c =
    let inv = c.loop-rate.invariant in
    let so_far = known_rates (take c.loop-rate.rate-index c.args.rates.now) in
    elim c.match-rate.branch [
      | in-Some w ↦
          let more = known_more_some c.args.rates.now c.loop-rate.rate-index w.in-Some.r c.loop-rate-test.true w.in-Some.is in
          let within : w.in-Some.r ≤ 1000000 = (rw w.in-Some.is at (c.requires.within c.loop-rate.rate-index None c.loop-rate-test.true)) w.in-Some.r refl in
          record {
            count = rw (more, length-append, w.count-is) (omega (arith, inv.count));
            sum_is = rw (more, w.sum-is) (omega (arith, inv.sum_is, w.from-r.ensures, sum_by_push (λ x. x) so_far w.in-Some.r));
            squares = rw (more, w.squares-is, w.from-r.ensures) (omega (arith, inv.squares, sum_by_push square so_far w.in-Some.r));
            few = omega (arith, inv.few);
            sum_within = omega (arith, inv.sum_within, w.from-r.ensures);
            squares_within = rw (w.squares-is, w.from-r.ensures) (omega (arith, inv.squares_within, square_within w.in-Some.r within));
          }
      | in_default w ↦
          let more = known_more_none c.args.rates.now c.loop-rate.rate-index c.loop-rate-test.true w.in_default.is in
          record {
            count = rw more (rw w.count-is inv.count);
            sum_is = rw more (rw w.sum-is inv.sum_is);
            squares = rw more (rw w.squares-is inv.squares);
            few = omega (arith, inv.few);
            sum_within = omega (arith, inv.sum_within);
            squares_within = omega (arith, inv.squares_within);
          }
    ]
