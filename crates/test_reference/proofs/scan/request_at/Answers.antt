use Rattle.std.proofs.Common.{sym, ap, ◌∙◌, arith}
use Rattle.std.specs.Option.{option_copied}
use Rattle.list_lemmas.specs.Lists.{list_of}
use Rattle.proxy_history.specs.History.{request_by}
use Rattle.test_reference.proofs.EventYieldLemmas.{request_found, request_not_found}
use Rattle.test_reference.proofs.scan.request_at.Goals as goal

pub returns-then-before-index : goal.returns-then-before-index
returns-then-before-index c =
    let one = ap (λ s. request_by c.args.conn s.event) (sym c.step-item.is) ∙ sym c.request_of.ensures ∙ ap (λ z. list_of (option_copied z)) c.in-Some.is in
    sym (request_found c.args.conn c.args.steps.now c.loop-step.step-index c.step-item.result c.in-Some.request.now c.args.index c.loop-step-test.true one
    (omega (arith, c.if-before-index.true, c.loop-step.invariant.before)))

pub returns : goal.returns
returns c = sym (request_not_found c.args.conn c.args.steps.now c.loop-step.step-index c.args.index (omega (arith, c.loop-step-test.false)) (omega (arith, c.loop-step.invariant.before, c.loop-step.invariant.few)))
