use Rattle.std.proofs.Common.{◌≡◌, ℕ, ◌<◌, get_or, length}
use Rattle.proxy_stats.specs.Sums.{AreHostsJoined}
use Rattle.proxy_stats.specs.declared.tally.HostCounts.{HostCounts}
use Rattle.proxy_stats.proofs.tally.joined_hosts.Given as goal

-- those so far are joined
abbrev pub invariant-loop-h : goal.invariant-loop-h
invariant-loop-h l = (length l.joined ≡ 64) × ((k : ℕ) (d : HostCounts) → k < l.h → AreHostsJoined (get_or l.one k d) (get_or l.other k d) (get_or l.joined k d))
