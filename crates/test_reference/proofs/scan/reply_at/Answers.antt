use Rattle.std.proofs.Common.{sym, ap, ◌∙◌, arith}
use Rattle.std.specs.Option.{option_map, option_copied}
use Rattle.resp_core.specs.Value.{tree_of}
use Rattle.list_lemmas.specs.Lists.{list_of}
use Rattle.proxy_history.specs.Replies.{reply_by}
use Rattle.test_reference.proofs.EventYieldLemmas.{reply_found, reply_not_found}
use Rattle.test_reference.proofs.scan.reply_at.Goals as goal

pub returns-then-before-place : goal.returns-then-before-place
returns-then-before-place c =
    let one = ap (λ s. reply_by c.args.host c.args.epoch s.event) (sym c.step-item.is) ∙ sym c.reply_of.ensures ∙ ap (λ z. list_of (option_map tree_of (option_copied z))) c.in-Some.is in
    sym (reply_found c.args.host c.args.epoch c.args.steps.now c.loop-step.step-index c.step-item.result (tree_of c.in-Some.value.now) c.args.place c.loop-step-test.true one
    (omega (arith, c.if-before-place.true, c.loop-step.invariant.before)))

pub returns : goal.returns
returns c = sym (reply_not_found c.args.host c.args.epoch c.args.steps.now c.loop-step.step-index c.args.place (omega (arith, c.loop-step-test.false)) (omega (arith, c.loop-step.invariant.before, c.loop-step.invariant.few)))
