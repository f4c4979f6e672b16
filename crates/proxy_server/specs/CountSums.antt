-- Counts of several generations, added up.
use Rattle.std.specs.Prelude.{◌≡◌, ℕ, ◌<◌, List, map, sum_by, slice_index, slice_index_or}
use Rattle.proxy_stats.specs.declared.tally.Counts.{Counts}
use Rattle.proxy_stats.specs.declared.tally.HostCounts.{HostCounts}
use Rattle.proxy_stats.specs.Sums.{capped_sum}

-- each number of a host is the sum over these, or the greatest `u64` where that is more
pub record AreHostSums (all : List HostCounts) (c : HostCounts) : Type 0 where
  pub sent : c.sent ≡ capped_sum (sum_by (λ a. a.sent) all)
  pub answered : c.answered ≡ capped_sum (sum_by (λ a. a.answered) all)
  pub faults : c.faults ≡ capped_sum (sum_by (λ a. a.faults) all)
  pub lost : c.lost ≡ capped_sum (sum_by (λ a. a.lost) all)

-- each number is the sum over these counts, or the greatest `u64` where that is more
pub record AreSums (all : List Counts) (c : Counts) : Type 0 where
  pub accepted : c.accepted ≡ capped_sum (sum_by (λ a. a.accepted) all)
  pub handed : c.handed ≡ capped_sum (sum_by (λ a. a.handed) all)
  pub sent : c.sent ≡ capped_sum (sum_by (λ a. a.sent) all)
  pub answered : c.answered ≡ capped_sum (sum_by (λ a. a.answered) all)
  pub lost : c.lost ≡ capped_sum (sum_by (λ a. a.lost) all)
  pub ejections : c.ejections ≡ capped_sum (sum_by (λ a. a.ejections) all)
  pub kept : c.kept ≡ capped_sum (sum_by (λ a. a.kept) all)
  pub no_host : c.no_host ≡ capped_sum (sum_by (λ a. a.no_host) all)
  pub busy : c.busy ≡ capped_sum (sum_by (λ a. a.busy) all)
  pub local : (i : ℕ) → i < 7 → slice_index c.local i ≡ capped_sum (sum_by (λ a. slice_index a.local i) all)
  pub hosts : (h : ℕ) (d : HostCounts) → h < 64
      → AreHostSums (map (λ a. slice_index_or a.hosts h d) all) (slice_index_or c.hosts h d)
