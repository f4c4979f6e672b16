use Rattle.proxy_history.specs.declared.event.Event.TheVariants.{Swept}
use Rattle.proxy_core.specs.Core.{with_step}
use Rattle.proxy_core.proofs.turn.IsDoneLemmas.{makes, if_makes, has_room, if_made, if_left, all_three, if_ok}
use Rattle.proxy_core.proofs.turn.EventResults.{swept-made}
use Rattle.proxy_core.proofs.machine.Machine.turn_swept.Goals as goal

pub add_step-requires : goal.add_step-requires
add_step-requires c =
    has_room c.sweep-done.result c.args.self.now c.sweep-done.new.self (Swept c.args.t)
    (if_makes _ c.sweep-done.result c.args.self.now c.sweep-done.new.self (Swept c.args.t)
    (λ d (gives, its_own, hosts). makes c.args.self.now c.sweep-done.new.self (Swept c.args.t) d _ gives (λ pass is. swept-made c.args.self.now (with_step c.sweep-done.new.self pass (Swept c.args.t) d) pass c.args.t d.answer c.requires is its_own hosts))
    (all_three _ _ _ c.sweep-done.result c.sweep-done.ensures.done c.sweep-done.ensures.swept (if_ok _ c.sweep-done.result c.sweep-done.ensures.hosts)))

pub returns-clause-answered : goal.returns-clause-answered
returns-clause-answered c =
    if_made c.sweep-done.result c.add_step.result c.args.self.now c.sweep-done.new.self c.add_step.new.self c.args.pass (Swept c.args.t)
    (if_makes _ c.sweep-done.result c.args.self.now c.sweep-done.new.self (Swept c.args.t)
    (λ d (gives, its_own, hosts). makes c.args.self.now c.sweep-done.new.self (Swept c.args.t) d _ gives (λ pass is. swept-made c.args.self.now (with_step c.sweep-done.new.self pass (Swept c.args.t) d) pass c.args.t d.answer c.requires is its_own hosts))
    (all_three _ _ _ c.sweep-done.result c.sweep-done.ensures.done c.sweep-done.ensures.swept (if_ok _ c.sweep-done.result c.sweep-done.ensures.hosts)))
    c.add_step.ensures.answered

pub returns-clause-refused : goal.returns-clause-refused
returns-clause-refused c =
    if_left c.sweep-done.result c.add_step.result c.args.self.now c.sweep-done.new.self c.add_step.new.self (Swept c.args.t) c.requires c.sweep-done.ensures.refused c.add_step.ensures.refused
