use Rattle.proxy_local.proofs.StubLemmas.{numbers-more}
use Rattle.proxy_local.proofs.stubs.stub_engines.Goals as goal

pub loop-host-preserved : goal.loop-host-preserved
loop-host-preserved c = rw c.in_ok-push.ensures.items
    (numbers-more (λ e. e.outbox.host) c.loop-host.engines.items c.in_ok-stub_engine.field-0 c.loop-host.host c.loop-host.invariant
    c.in_ok-stub_engine.ensures.host)
