use Rattle.proxy_engines.proofs.HostMoves.{attached}
use Rattle.proxy_engines.specs.HostStep.{HostState}
use Rattle.std.proofs.Common.{ap, refl, ◌∙◌}
use Rattle.proxy_engines.proofs.host.HostEngine.attach.Goals as goal

pub returns-in-Ok-clause-outbox : goal.returns-in-Ok-clause-outbox
returns-in-Ok-clause-outbox g c = ap (λ (h : HostState). h.outbox) c.self.view_is

pub returns-in-Ok-clause-fault : goal.returns-in-Ok-clause-fault
returns-in-Ok-clause-fault g c = ap (λ (h : HostState). h.fault) c.self.view_is ∙ c.requires.no_fault

pub returns-in-Ok-clause-link : goal.returns-in-Ok-clause-link
returns-in-Ok-clause-link g c = (c.in-Ok.link, c.replace.ensures.after, c.in-Ok.ensures.inbox.0, c.in-Ok.ensures.held, c.in-Ok.ensures.logs.0, c.in-Ok.ensures.logs.1)

pub returns-in-Ok-clause-err : goal.returns-in-Ok-clause-err
returns-in-Ok-clause-err g c = tt

pub returns-in-Ok-clause-carries : goal.returns-in-Ok-clause-carries
returns-in-Ok-clause-carries g c =
    let (_, most, whole) = c.in-Ok.ensures.inbox in
    λ H k. rw c.replace.ensures.after (attached _ c.in-Ok.link H c.in-Ok.ensures.holds most whole c.in-Ok.ensures.next (rw (← c.self.view_is) at k))

pub returns-in-Err-clause-outbox : goal.returns-in-Err-clause-outbox
returns-in-Err-clause-outbox g c = refl

pub returns-in-Err-clause-fault : goal.returns-in-Err-clause-fault
returns-in-Err-clause-fault g c = c.requires.no_fault

pub returns-in-Err-clause-link : goal.returns-in-Err-clause-link
returns-in-Err-clause-link g c = tt

pub returns-in-Err-clause-carries : goal.returns-in-Err-clause-carries
returns-in-Err-clause-carries g c = tt

pub returns-in-Err-clause-err : goal.returns-in-Err-clause-err
returns-in-Err-clause-err g c = (refl, refl, c.in-Err.ensures.back.0, c.in-Err.ensures.back.1)
