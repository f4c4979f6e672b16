use Rattle.proxy_history.specs.declared.event.Event.TheVariants.{Finished}
use Rattle.proxy_core.specs.Core.{with_step}
use Rattle.proxy_core.proofs.turn.IsDoneLemmas.{makes, if_makes, has_room, if_made, if_left}
use Rattle.proxy_core.proofs.turn.EventResults.{finished-made}
use Rattle.proxy_core.proofs.machine.Machine.turn_finished.Goals as goal

pub add_step-requires : goal.add_step-requires
add_step-requires c =
    has_room c.finish-done.result c.args.self.now c.finish-done.new.self (Finished c.args.conn)
    (if_makes _ c.finish-done.result c.args.self.now c.finish-done.new.self (Finished c.args.conn)
    (λ d h. makes c.args.self.now c.finish-done.new.self (Finished c.args.conn) d _ h.1 (λ pass is. finished-made c.args.self.now (with_step c.finish-done.new.self pass (Finished c.args.conn) d) pass c.args.conn d.answer c.requires (h.0, is)))
    c.finish-done.ensures.done)

pub returns-clause-answered : goal.returns-clause-answered
returns-clause-answered c =
    if_made c.finish-done.result c.add_step.result c.args.self.now c.finish-done.new.self c.add_step.new.self c.args.pass (Finished c.args.conn)
    (if_makes _ c.finish-done.result c.args.self.now c.finish-done.new.self (Finished c.args.conn)
    (λ d h. makes c.args.self.now c.finish-done.new.self (Finished c.args.conn) d _ h.1 (λ pass is. finished-made c.args.self.now (with_step c.finish-done.new.self pass (Finished c.args.conn) d) pass c.args.conn d.answer c.requires (h.0, is)))
    c.finish-done.ensures.done)
    c.add_step.ensures.answered

pub returns-clause-refused : goal.returns-clause-refused
returns-clause-refused c =
    if_left c.finish-done.result c.add_step.result c.args.self.now c.finish-done.new.self c.add_step.new.self (Finished c.args.conn) c.requires c.finish-done.ensures.refused c.add_step.ensures.refused
