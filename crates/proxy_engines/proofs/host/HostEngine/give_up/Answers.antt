use Rattle.std.proofs.Common.{Some, ◌∙◌, ap, subst, sym}
use Rattle.proxy_history.specs.declared.event.Kind.{Kind}
use Rattle.proxy_engines.specs.HostStep.{HostState}
use Rattle.proxy_engines.specs.HostTurns.{RecordsFault}
use Rattle.proxy_engines.specs.declared.link_fault.LinkFault.{LinkFault}
use Rattle.proxy_engines.proofs.host.HostEngine.give_up.Goals as goal

pub returns-in_default : goal.returns-in_default
returns-in_default g c =
    let none = ap (λ (h : HostState). h.fault) (sym c.self.view_is) ∙ c.in_default.is in
    let records = subst (λ (h : HostState). RecordsFault g.T.Turns.cause (g.T.Turns.facts c.args.turns.now) (g.T.Turns.facts c.record_fault.new.turns)
    (record h { last_fault = Some LinkFault.GivenUp }) c.record_fault.new.self Kind.Dropped c.args.moment c.record_fault.result)
    c.self.view_is c.record_fault.ensures.records in
    record { records = rw none records }

pub returns : goal.returns
returns g c =
    let fault = ap (λ (h : HostState). h.fault) (sym c.self.view_is) ∙ c.in-Some.is in
    record { records = rw fault c.record_fault-2.ensures.records }
