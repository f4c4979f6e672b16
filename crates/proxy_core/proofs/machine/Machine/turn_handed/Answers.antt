use Rattle.proxy_history.specs.declared.event.Event.TheVariants.{Handed}
use Rattle.proxy_core.specs.Core.{with_step}
use Rattle.proxy_core.proofs.turn.IsDoneLemmas.{makes, if_makes, has_room, if_made, if_left}
use Rattle.proxy_core.proofs.turn.EventResults.{handed-made}
use Rattle.proxy_core.proofs.turn.Requirements.{asked_reply}
use Rattle.proxy_core.proofs.machine.Machine.turn_handed.Goals as goal

pub hand-done-requires : goal.hand-done-requires
hand-done-requires c = record { plain = asked_reply c.args.self.now c.args.conn c.requires }

pub add_step-requires : goal.add_step-requires
add_step-requires c =
    has_room c.hand-done.result c.args.self.now c.hand-done.new.self (Handed c.args.conn)
    (if_makes _ c.hand-done.result c.args.self.now c.hand-done.new.self (Handed c.args.conn)
    (λ d h. makes c.args.self.now c.hand-done.new.self (Handed c.args.conn) d _ h.1 (λ pass is. handed-made c.args.self.now (with_step c.hand-done.new.self pass (Handed c.args.conn) d) pass c.args.conn d.answer c.requires (h.0, is)))
    c.hand-done.ensures.done)

pub returns-clause-answered : goal.returns-clause-answered
returns-clause-answered c =
    if_made c.hand-done.result c.add_step.result c.args.self.now c.hand-done.new.self c.add_step.new.self c.args.pass (Handed c.args.conn)
    (if_makes _ c.hand-done.result c.args.self.now c.hand-done.new.self (Handed c.args.conn)
    (λ d h. makes c.args.self.now c.hand-done.new.self (Handed c.args.conn) d _ h.1 (λ pass is. handed-made c.args.self.now (with_step c.hand-done.new.self pass (Handed c.args.conn) d) pass c.args.conn d.answer c.requires (h.0, is)))
    c.hand-done.ensures.done)
    c.add_step.ensures.answered

pub returns-clause-refused : goal.returns-clause-refused
returns-clause-refused c =
    if_left c.hand-done.result c.add_step.result c.args.self.now c.hand-done.new.self c.add_step.new.self (Handed c.args.conn) c.requires c.hand-done.ensures.refused c.add_step.ensures.refused
