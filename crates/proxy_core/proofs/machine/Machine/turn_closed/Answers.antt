use Rattle.proxy_history.specs.declared.event.Event.TheVariants.{Closed}
use Rattle.proxy_core.specs.Core.{with_step}
use Rattle.proxy_core.proofs.turn.IsDoneLemmas.{makes, if_makes, has_room, if_made, if_left}
use Rattle.proxy_core.proofs.turn.EventResults.{closed-made}
use Rattle.proxy_core.proofs.turn.Requirements.{asked_closed, asked_fault}
use Rattle.proxy_core.proofs.machine.Machine.turn_closed.Goals as goal

pub close-done-requires : goal.close-done-requires
close-done-requires c = record { closed = asked_closed c.args.self.now c.requires; awaited = λ h. asked_fault c.args.self.now h c.requires }

pub add_step-requires : goal.add_step-requires
add_step-requires c =
    has_room c.close-done.result c.args.self.now c.close-done.new.self (Closed c.args.conn)
    (if_makes _ c.close-done.result c.args.self.now c.close-done.new.self (Closed c.args.conn)
    (λ d h. makes c.args.self.now c.close-done.new.self (Closed c.args.conn) d _ h.1 (λ pass is. closed-made c.args.self.now (with_step c.close-done.new.self pass (Closed c.args.conn) d) pass c.args.conn d.answer c.requires (h.0, is)))
    c.close-done.ensures.done)

pub returns-clause-answered : goal.returns-clause-answered
returns-clause-answered c =
    if_made c.close-done.result c.add_step.result c.args.self.now c.close-done.new.self c.add_step.new.self c.args.pass (Closed c.args.conn)
    (if_makes _ c.close-done.result c.args.self.now c.close-done.new.self (Closed c.args.conn)
    (λ d h. makes c.args.self.now c.close-done.new.self (Closed c.args.conn) d _ h.1 (λ pass is. closed-made c.args.self.now (with_step c.close-done.new.self pass (Closed c.args.conn) d) pass c.args.conn d.answer c.requires (h.0, is)))
    c.close-done.ensures.done)
    c.add_step.ensures.answered

pub returns-clause-refused : goal.returns-clause-refused
returns-clause-refused c =
    if_left c.close-done.result c.add_step.result c.args.self.now c.close-done.new.self c.add_step.new.self (Closed c.args.conn) c.requires c.close-done.ensures.refused c.add_step.ensures.refused
