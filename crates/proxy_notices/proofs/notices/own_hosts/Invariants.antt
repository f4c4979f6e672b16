use Rattle.proxy_notices.proofs.HostBitLemmas.{AreBelow}
use Rattle.proxy_notices.proofs.notices.own_hosts.Given as goal

abbrev pub invariant-loop-host : goal.invariant-loop-host
invariant-loop-host l = AreBelow l.own l.place l.host
