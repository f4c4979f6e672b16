use Rattle.proxy_history.specs.declared.event.Event.TheVariants.{Taken}
use Rattle.proxy_core.specs.Core.{with_step}
use Rattle.proxy_core.proofs.turn.IsDoneLemmas.{makes, if_makes, has_room, if_made, if_left}
use Rattle.proxy_core.proofs.turn.EventResults.{taken-made}
use Rattle.proxy_core.proofs.turn.Requirements.{asked_hosts, asked_taken}
use Rattle.proxy_core.proofs.machine.Machine.turn_taken.Goals as goal

pub take-done-requires-clause-hosts : goal.take-done-requires-clause-hosts
take-done-requires-clause-hosts c = asked_hosts c.args.self.now c.requires

pub take-done-requires-clause-taken : goal.take-done-requires-clause-taken
take-done-requires-clause-taken c = asked_taken c.args.self.now c.args.host c.requires

pub add_step-requires : goal.add_step-requires
add_step-requires c =
    has_room c.take-done.result c.args.self.now c.take-done.new.self (Taken c.args.host)
    (if_makes _ c.take-done.result c.args.self.now c.take-done.new.self (Taken c.args.host)
    (λ d h. makes c.args.self.now c.take-done.new.self (Taken c.args.host) d _ h.1 (λ pass is. taken-made c.args.self.now (with_step c.take-done.new.self pass (Taken c.args.host) d) pass c.args.host d.answer c.requires (h.0, is)))
    c.take-done.ensures.done)

pub returns-clause-answered : goal.returns-clause-answered
returns-clause-answered c =
    if_made c.take-done.result c.add_step.result c.args.self.now c.take-done.new.self c.add_step.new.self c.args.pass (Taken c.args.host)
    (if_makes _ c.take-done.result c.args.self.now c.take-done.new.self (Taken c.args.host)
    (λ d h. makes c.args.self.now c.take-done.new.self (Taken c.args.host) d _ h.1 (λ pass is. taken-made c.args.self.now (with_step c.take-done.new.self pass (Taken c.args.host) d) pass c.args.host d.answer c.requires (h.0, is)))
    c.take-done.ensures.done)
    c.add_step.ensures.answered

pub returns-clause-refused : goal.returns-clause-refused
returns-clause-refused c =
    if_left c.take-done.result c.add_step.result c.args.self.now c.take-done.new.self c.add_step.new.self (Taken c.args.host) c.requires c.take-done.ensures.refused c.add_step.ensures.refused
