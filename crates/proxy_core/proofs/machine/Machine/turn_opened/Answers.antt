use Rattle.proxy_history.specs.declared.event.Event.TheVariants.{Opened}
use Rattle.proxy_core.specs.Core.{with_step}
use Rattle.proxy_core.proofs.turn.IsDoneLemmas.{makes, if_makes, has_room, if_made, if_left}
use Rattle.proxy_core.proofs.turn.EventResults.{opened-made}
use Rattle.proxy_core.proofs.machine.Machine.turn_opened.Goals as goal

pub add_step-requires : goal.add_step-requires
add_step-requires c =
    has_room c.open-done.result c.args.self.now c.open-done.new.self Opened
    (if_makes _ c.open-done.result c.args.self.now c.open-done.new.self Opened
    (λ d h. makes c.args.self.now c.open-done.new.self Opened d _ h.1 (λ pass is. opened-made c.args.self.now (with_step c.open-done.new.self pass Opened d) pass d.answer c.requires (h.0, is)))
    c.open-done.ensures.done)

pub returns-clause-answered : goal.returns-clause-answered
returns-clause-answered c =
    if_made c.open-done.result c.add_step.result c.args.self.now c.open-done.new.self c.add_step.new.self c.args.pass Opened
    (if_makes _ c.open-done.result c.args.self.now c.open-done.new.self Opened
    (λ d h. makes c.args.self.now c.open-done.new.self Opened d _ h.1 (λ pass is. opened-made c.args.self.now (with_step c.open-done.new.self pass Opened d) pass d.answer c.requires (h.0, is)))
    c.open-done.ensures.done)
    c.add_step.ensures.answered

pub returns-clause-refused : goal.returns-clause-refused
returns-clause-refused c =
    if_left c.open-done.result c.add_step.result c.args.self.now c.open-done.new.self c.add_step.new.self Opened c.requires c.open-done.ensures.refused c.add_step.ensures.refused
