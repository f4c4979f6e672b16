use Rattle.proxy_history.specs.declared.event.Event.TheVariants.{Failed}
use Rattle.proxy_core.specs.Core.{with_step}
use Rattle.proxy_core.proofs.turn.IsDoneLemmas.{makes, if_makes, has_room, if_made, if_left, all_three, if_ok}
use Rattle.proxy_core.proofs.turn.EventResults.{failed-made}
use Rattle.proxy_core.proofs.turn.Requirements.{asked_hosts, asked_fault, asked_epochs}
use Rattle.proxy_core.proofs.machine.Machine.turn_failed.Goals as goal

pub fail-done-requires-clause-hosts : goal.fail-done-requires-clause-hosts
fail-done-requires-clause-hosts c = asked_hosts c.args.self.now c.requires

pub fail-done-requires-clause-awaited : goal.fail-done-requires-clause-awaited
fail-done-requires-clause-awaited c = asked_fault c.args.self.now c.args.origin.host c.requires

pub fail-done-requires-clause-epochs : goal.fail-done-requires-clause-epochs
fail-done-requires-clause-epochs c = asked_epochs c.args.self.now c.args.origin.host c.requires

pub add_step-requires : goal.add_step-requires
add_step-requires c =
    has_room c.fail-done.result c.args.self.now c.fail-done.new.self (Failed c.args.origin.host c.args.origin.epoch c.args.kind c.args.t)
    (if_makes _ c.fail-done.result c.args.self.now c.fail-done.new.self (Failed c.args.origin.host c.args.origin.epoch c.args.kind c.args.t)
    (λ d (gives, its_own, hosts). makes c.args.self.now c.fail-done.new.self (Failed c.args.origin.host c.args.origin.epoch c.args.kind c.args.t) d _ gives (λ pass is. failed-made c.args.self.now (with_step c.fail-done.new.self pass (Failed c.args.origin.host c.args.origin.epoch c.args.kind c.args.t) d) pass c.args.origin.host c.args.origin.epoch c.args.t c.args.kind d.answer c.requires is its_own hosts))
    (all_three _ _ _ c.fail-done.result c.fail-done.ensures.done c.fail-done.ensures.lost (if_ok _ c.fail-done.result c.fail-done.ensures.hosts)))

pub returns-clause-answered : goal.returns-clause-answered
returns-clause-answered c =
    if_made c.fail-done.result c.add_step.result c.args.self.now c.fail-done.new.self c.add_step.new.self c.args.pass (Failed c.args.origin.host c.args.origin.epoch c.args.kind c.args.t)
    (if_makes _ c.fail-done.result c.args.self.now c.fail-done.new.self (Failed c.args.origin.host c.args.origin.epoch c.args.kind c.args.t)
    (λ d (gives, its_own, hosts). makes c.args.self.now c.fail-done.new.self (Failed c.args.origin.host c.args.origin.epoch c.args.kind c.args.t) d _ gives (λ pass is. failed-made c.args.self.now (with_step c.fail-done.new.self pass (Failed c.args.origin.host c.args.origin.epoch c.args.kind c.args.t) d) pass c.args.origin.host c.args.origin.epoch c.args.t c.args.kind d.answer c.requires is its_own hosts))
    (all_three _ _ _ c.fail-done.result c.fail-done.ensures.done c.fail-done.ensures.lost (if_ok _ c.fail-done.result c.fail-done.ensures.hosts)))
    c.add_step.ensures.answered

pub returns-clause-refused : goal.returns-clause-refused
returns-clause-refused c =
    if_left c.fail-done.result c.add_step.result c.args.self.now c.fail-done.new.self c.add_step.new.self (Failed c.args.origin.host c.args.origin.epoch c.args.kind c.args.t) c.requires c.fail-done.ensures.refused c.add_step.ensures.refused
