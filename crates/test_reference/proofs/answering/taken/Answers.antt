use Rattle.std.proofs.Common.{◌≡◌, [], sym, ap, ◌∙◌, length}
use Rattle.std.specs.Option.{option_map, option_copied}
use Rattle.proxy_history.specs.Waiting.{waiting_parts, sent_to}
use Rattle.proxy_history.specs.Answer.{text_of_first}
use Rattle.test_reference.specs.Scan.{part_of, history_of, past_of_scan}
use Rattle.proxy_history.specs.History.{epoch}
use Rattle.test_reference.proofs.FirstTextLemmas.{text_of_some, text_of_none, sent_same}
use Rattle.test_reference.proofs.answering.taken.Goals as goal
use Rattle.test_reference.proofs.answering.taken.Goals.{in-Some+in_ok-text-in-Some, in-None}

text_is : (c : goal.After-sent) → c.match-first_waiting.text ≡ text_of_first (waiting_parts c.args.host (past_of_scan c.args.steps.now [] c.args.replay.now))
text_is c = elim c.match-first_waiting.branch [
  | in-Some+in_ok-text-in-Some w ↦ w.text-is ∙ w.in_ok-text-in-Some.ensures.cases ∙ text_of_some (waiting_parts c.args.host (past_of_scan c.args.steps.now [] c.args.replay.now)) (part_of w.in-Some.part.now) (sym c.first_waiting.ensures ∙ ap (λ z. option_map part_of (option_copied z)) w.in-Some.is)
  | in-None w ↦ w.text-is ∙ w.from_static-text.ensures ∙ text_of_none (waiting_parts c.args.host (past_of_scan c.args.steps.now [] c.args.replay.now)) (sym c.first_waiting.ensures ∙ ap (λ z. option_map part_of (option_copied z)) w.in-None.is)
]

pub returns : goal.returns
returns c = λ S marks.
    let x = past_of_scan c.args.steps.now [] c.args.replay.now in
    sent_same c.times-epoch.result (epoch c.args.host (history_of c.args.steps.now)) c.sent.result (length (sent_to c.args.host (epoch c.args.host (history_of c.args.steps.now)) x)) c.match-first_waiting.text (text_of_first (waiting_parts c.args.host x))
    c.times-epoch.ensures (c.sent.ensures.value c.args.steps.now ∙ ap (λ e. length (sent_to c.args.host e x)) c.times-epoch.ensures) (text_is c)
