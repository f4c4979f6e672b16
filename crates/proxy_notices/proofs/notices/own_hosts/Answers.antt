use Rattle.std.proofs.Common.{arith, ◌<◌}
use Rattle.proxy_notices.proofs.HostBitLemmas.{with_host, without_host}
use Rattle.proxy_notices.proofs.notices.own_hosts.Goals as goal
use Rattle.proxy_notices.proofs.notices.own_hosts.Goals.{then-has, else-has}

pub loop-host-preserved : goal.loop-host-preserved
loop-host-preserved c =
    let few : c.loop-host.host < 64 = omega (arith, c.loop-host-test.true) in
    elim c.if-has.branch [
      | then-has w ↦
          rw w.own-is (with_host c.loop-host.own c.args.place c.loop-host.host few c.loop-host.invariant (c.has.ensures.0 w.if-has.true))
      | else-has w ↦
          rw w.own-is (without_host c.loop-host.own c.args.place c.loop-host.host few c.loop-host.invariant
          (λ is. absurd (grind (arith, w.if-has.false, c.has.ensures.1 is))))
    ]
