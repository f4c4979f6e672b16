use Rattle.std.proofs.Common.{◌≡◌, take, map}
use Rattle.proxy_config.proofs.config.Config.ring.Given as goal

-- the names so far are those of the hosts so far
abbrev pub invariant-loop-host : goal.invariant-loop-host
invariant-loop-host l = l.names.items ≡ map (λ h. h.name) (take l.host-index l.host-items)
