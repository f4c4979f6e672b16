use Rattle.std.proofs.Common.{[], refl, sym, ap, ◌∙◌}
use Rattle.proxy_history.specs.Cause.{own_cause}
use Rattle.test_reference.specs.Scan.{past_of_scan}
use Rattle.test_reference.proofs.reference.own_cause.Goals as goal

pub returns-in-Opened : goal.returns-in-Opened
returns-in-Opened c = λ S e. c.opening_cause.ensures S c.args.replay.now ∙ ap (own_cause S (past_of_scan c.args.steps.now [] c.args.replay.now)) (sym c.in-Opened.is)

pub returns-in-Arrived : goal.returns-in-Arrived
returns-in-Arrived c = λ S e. c.arrival_cause.ensures S c.args.replay.now c.in-Arrived.request ∙ ap (own_cause S (past_of_scan c.args.steps.now [] c.args.replay.now)) (sym c.in-Arrived.is)

pub returns-in-Finished : goal.returns-in-Finished
returns-in-Finished c = λ S e. c.finish_cause.ensures S c.args.replay.now ∙ ap (own_cause S (past_of_scan c.args.steps.now [] c.args.replay.now)) (sym c.in-Finished.is)

pub returns-in-Answered : goal.returns-in-Answered
returns-in-Answered c = λ S e. c.answer_cause.ensures S c.in-Answered.value c.in-Answered.t e refl ∙ ap (own_cause S (past_of_scan c.args.steps.now [] c.args.replay.now)) (sym c.in-Answered.is)

pub returns-in-Failed : goal.returns-in-Failed
returns-in-Failed c = λ S e. c.fault_cause.ensures S c.args.replay.now c.in-Failed.kind c.in-Failed.t e ∙ ap (own_cause S (past_of_scan c.args.steps.now [] c.args.replay.now)) (sym c.in-Failed.is)

pub returns-in-Closed : goal.returns-in-Closed
returns-in-Closed c = λ S e. c.close_cause.ensures S c.args.replay.now ∙ ap (own_cause S (past_of_scan c.args.steps.now [] c.args.replay.now)) (sym c.in-Closed.is)

pub returns-in_ok-hand_cause-in-Handed : goal.returns-in_ok-hand_cause-in-Handed
returns-in_ok-hand_cause-in-Handed c = λ S e. c.in_ok-hand_cause-in-Handed.ensures S ∙ ap (own_cause S (past_of_scan c.args.steps.now [] c.args.replay.now)) (sym c.in-Handed.is)
