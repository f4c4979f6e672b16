use Rattle.proxy_history.specs.declared.event.Event.TheVariants.{Arrived}
use Rattle.proxy_core.specs.Core.{with_step}
use Rattle.proxy_core.proofs.turn.IsDoneLemmas.{makes, if_makes, has_room, if_made, if_left}
use Rattle.proxy_core.proofs.turn.EventResults.{arrived-made}
use Rattle.proxy_core.proofs.machine.Machine.turn_arrived.Goals as goal

pub add_step-requires : goal.add_step-requires
add_step-requires c =
    has_room c.arrive-done.result c.args.self.now c.arrive-done.new.self (Arrived c.args.conn c.args.request)
    (if_makes _ c.arrive-done.result c.args.self.now c.arrive-done.new.self (Arrived c.args.conn c.args.request)
    (λ d h. makes c.args.self.now c.arrive-done.new.self (Arrived c.args.conn c.args.request) d _ h.1 (λ pass is. arrived-made c.args.self.now (with_step c.arrive-done.new.self pass (Arrived c.args.conn c.args.request) d) pass c.args.conn c.args.request d.answer c.requires h.0 is))
    c.arrive-done.ensures.done)

pub returns-clause-answered : goal.returns-clause-answered
returns-clause-answered c =
    if_made c.arrive-done.result c.add_step.result c.args.self.now c.arrive-done.new.self c.add_step.new.self c.args.pass (Arrived c.args.conn c.args.request)
    (if_makes _ c.arrive-done.result c.args.self.now c.arrive-done.new.self (Arrived c.args.conn c.args.request)
    (λ d h. makes c.args.self.now c.arrive-done.new.self (Arrived c.args.conn c.args.request) d _ h.1 (λ pass is. arrived-made c.args.self.now (with_step c.arrive-done.new.self pass (Arrived c.args.conn c.args.request) d) pass c.args.conn c.args.request d.answer c.requires h.0 is))
    c.arrive-done.ensures.done)
    c.add_step.ensures.answered

pub returns-clause-refused : goal.returns-clause-refused
returns-clause-refused c =
    if_left c.arrive-done.result c.add_step.result c.args.self.now c.arrive-done.new.self c.add_step.new.self (Arrived c.args.conn c.args.request) c.requires c.arrive-done.ensures.refused c.add_step.ensures.refused
