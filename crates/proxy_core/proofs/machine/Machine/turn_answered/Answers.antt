use Rattle.resp_core.specs.Value.{tree_of}
use Rattle.proxy_history.specs.declared.event.Event.TheVariants.{Answered}
use Rattle.proxy_core.specs.Core.{with_step}
use Rattle.proxy_core.proofs.turn.IsDoneLemmas.{makes, if_makes, has_room, if_made, if_left, all_three, if_ok}
use Rattle.proxy_core.proofs.turn.EventResults.{answered-made}
use Rattle.proxy_core.proofs.turn.Requirements.{asked_hosts, asked_answer}
use Rattle.proxy_core.proofs.machine.Machine.turn_answered.Goals as goal

pub answer-done-requires-clause-hosts : goal.answer-done-requires-clause-hosts
answer-done-requires-clause-hosts c = asked_hosts c.args.self.now c.requires

pub answer-done-requires-clause-awaited : goal.answer-done-requires-clause-awaited
answer-done-requires-clause-awaited c = asked_answer c.args.self.now c.args.origin.host (tree_of c.args.value) c.requires

pub add_step-requires : goal.add_step-requires
add_step-requires c =
    has_room c.answer-done.result c.args.self.now c.answer-done.new.self (Answered c.args.origin.host c.args.origin.epoch c.args.value c.args.t)
    (if_makes _ c.answer-done.result c.args.self.now c.answer-done.new.self (Answered c.args.origin.host c.args.origin.epoch c.args.value c.args.t)
    (λ d (gives, its_own, hosts). makes c.args.self.now c.answer-done.new.self (Answered c.args.origin.host c.args.origin.epoch c.args.value c.args.t) d _ gives (λ pass is. answered-made c.args.self.now (with_step c.answer-done.new.self pass (Answered c.args.origin.host c.args.origin.epoch c.args.value c.args.t) d) pass c.args.origin.host c.args.origin.epoch c.args.t c.args.value d.answer c.requires is its_own hosts))
    (all_three _ _ _ c.answer-done.result c.answer-done.ensures.done c.answer-done.ensures.matched (if_ok _ c.answer-done.result c.answer-done.ensures.hosts)))

pub returns-clause-answered : goal.returns-clause-answered
returns-clause-answered c =
    if_made c.answer-done.result c.add_step.result c.args.self.now c.answer-done.new.self c.add_step.new.self c.args.pass (Answered c.args.origin.host c.args.origin.epoch c.args.value c.args.t)
    (if_makes _ c.answer-done.result c.args.self.now c.answer-done.new.self (Answered c.args.origin.host c.args.origin.epoch c.args.value c.args.t)
    (λ d (gives, its_own, hosts). makes c.args.self.now c.answer-done.new.self (Answered c.args.origin.host c.args.origin.epoch c.args.value c.args.t) d _ gives (λ pass is. answered-made c.args.self.now (with_step c.answer-done.new.self pass (Answered c.args.origin.host c.args.origin.epoch c.args.value c.args.t) d) pass c.args.origin.host c.args.origin.epoch c.args.t c.args.value d.answer c.requires is its_own hosts))
    (all_three _ _ _ c.answer-done.result c.answer-done.ensures.done c.answer-done.ensures.matched (if_ok _ c.answer-done.result c.answer-done.ensures.hosts)))
    c.add_step.ensures.answered

pub returns-clause-refused : goal.returns-clause-refused
returns-clause-refused c =
    if_left c.answer-done.result c.add_step.result c.args.self.now c.answer-done.new.self c.add_step.new.self (Answered c.args.origin.host c.args.origin.epoch c.args.value c.args.t) c.requires c.answer-done.ensures.refused c.add_step.ensures.refused
