use Rattle.std.proofs.Common.{◌≡◌, ℕ, ◌<◌, get_or, length}
use Rattle.proxy_stats.specs.declared.load.HostLoad.{HostLoad}
use Rattle.proxy_server.specs.LookSums.{with_load}
use Rattle.proxy_server.proofs.look_sum.both_hosts.Given as goal

-- those so far are added up
abbrev pub invariant-loop-h : goal.invariant-loop-h
invariant-loop-h l = (length l.both ≡ 64) × ((k : ℕ) (d : HostLoad) → k < l.h → get_or l.both k d ≡ with_load (get_or l.one k d) (get_or l.other k d))
