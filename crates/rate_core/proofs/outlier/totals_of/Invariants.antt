-- The totals so far.
use Rattle.std.proofs.Common.{◌≡◌, ◌≤◌, ◌*◌, length, take, sum, sum_by}
use Rattle.rate_core.specs.Outlier.{known_rates, square}
use Rattle.rate_core.proofs.outlier.totals_of.Given as goal

abbrev pub invariant-loop-rate : goal.invariant-loop-rate
invariant-loop-rate l =
    let so_far = known_rates (take l.rate-index l.rates) in
    record {
      count : l.count ≡ length so_far;
      sum_is : l.sum ≡ sum so_far;
      squares : l.squares ≡ sum_by square so_far;
      few : l.count ≤ l.rate-index;
      sum_within : l.sum ≤ 1000000 * l.rate-index;
      squares_within : l.squares ≤ 1000000000000 * l.rate-index;
    }
