use Rattle.std.proofs.Common.{◌≡◌, ◌<◌, ◌^◌, length, take, All}
use Rattle.proxy_stats.specs.Amounts.{ejected_hosts, kept_hosts}
use Rattle.proxy_stats.specs.Sums.{AreCapped}
use Rattle.proxy_stats.proofs.counting.counts_of.Given as goal

-- the steps so far are counted
abbrev pub invariant-loop-i : goal.invariant-loop-i
invariant-loop-i l = AreCapped (take l.i l.journal.steps) l.counts × All (λ s. (ejected_hosts s < 2 ^ 32) × (kept_hosts s < 2 ^ 32)) (take l.i l.journal.steps) × (length l.counts.local ≡ 7) × (length l.counts.hosts ≡ 64)
