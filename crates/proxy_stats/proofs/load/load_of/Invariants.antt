use Rattle.std.proofs.Common.{◌≡◌, ℕ, ◌<◌, ◌≤◌, get_or, length}
use Rattle.proxy_history.specs.Proxy.{history_in}
use Rattle.proxy_stats.specs.Load.{host_load_of, no_load}
use Rattle.proxy_stats.specs.declared.load.HostLoad.{HostLoad}
use Rattle.proxy_stats.proofs.load.load_of.Given as goal

-- the hosts so far stand as they do, and of the others nothing is told
abbrev pub invariant-loop-host : goal.invariant-loop-host
invariant-loop-host g l =
    (length l.hosts ≡ 64)
    × ((h : ℕ) (d : HostLoad) → h < l.host → get_or l.hosts h d ≡ host_load_of l.core.setting (history_in l.core) h)
    × ((h : ℕ) (d : HostLoad) → l.host ≤ h → h < 64 → get_or l.hosts h d ≡ no_load)
