use Rattle.std.proofs.Common.{length, ap, ◌∙◌, arith}
use Rattle.proxy_history.specs.Replies.{replies_from}
use Rattle.test_reference.specs.Scan.{history_of, past_of_scan}
use Rattle.proxy_history.specs.Waiting.{sent_to}
use Rattle.proxy_history.specs.History.{epoch}
use Rattle.std.proofs.Common.{[]}
use Rattle.test_reference.proofs.pipe.flying.Goals as goal

pub returns-clause-value : goal.returns-clause-value
returns-clause-value c =
    let e = epoch c.args.host (history_of c.args.steps.now) in
    let is = c.times-epoch.ensures in
    omega (
      arith,
      c.saturating_sub.ensures,
      c.sent.ensures.value c.args.steps.now ∙ ap (λ z. length (sent_to c.args.host z (past_of_scan c.args.steps.now [] c.args.replay.now))) is,
      c.replies.ensures ∙ ap (λ z. length (replies_from c.args.host z (history_of c.args.steps.now))) is,
    )
