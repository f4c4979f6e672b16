use Rattle.std.proofs.Common.{List}
use Rattle.ejector.specs.declared.mark.Mark.{Mark}
use Rattle.test_reference.specs.Scan.{past_of_scan}
use Rattle.proxy_history.specs.declared.event.Event.TheVariants.{Taken, Answered, Failed, Swept, Handed}
use Rattle.test_reference.proofs.AnswerLemmas.{told_of, by_host, by_reply, by_fault, by_sweep}
use Rattle.test_reference.proofs.reference.answer_to.Goals as goal

pub returns-in-Taken : goal.returns-in-Taken
returns-in-Taken c =
    let x = λ (marks : List Mark). past_of_scan c.args.steps.now marks c.args.replay.now in
    told_of c.taken.result c.args.keys.now.ring.now c.args.replay.now.ejector.rules c.args.replay.now.ejector.state x (Taken c.in-Taken.host) c.args.event.now c.in-Taken.is
    (by_host c.taken.result c.args.keys.now.ring.now c.args.replay.now.ejector.rules c.args.replay.now.ejector.state x (Taken c.in-Taken.host) c.taken.ensures)

pub returns-in-Handed : goal.returns-in-Handed
returns-in-Handed c =
    let x = λ (marks : List Mark). past_of_scan c.args.steps.now marks c.args.replay.now in
    told_of c.handed_out.result c.args.keys.now.ring.now c.args.replay.now.ejector.rules c.args.replay.now.ejector.state x (Handed c.in-Handed.conn) c.args.event.now c.in-Handed.is
    (by_host c.handed_out.result c.args.keys.now.ring.now c.args.replay.now.ejector.rules c.args.replay.now.ejector.state x (Handed c.in-Handed.conn) c.handed_out.ensures)

pub returns-in-Answered : goal.returns-in-Answered
returns-in-Answered c =
    let x = λ (marks : List Mark). past_of_scan c.args.steps.now marks c.args.replay.now in
    told_of c.matched.result c.args.keys.now.ring.now c.args.replay.now.ejector.rules c.args.replay.now.ejector.state x (Answered c.in-Answered.host c.in-Answered.epoch c.in-Answered.value c.in-Answered.t) c.args.event.now c.in-Answered.is
    (by_reply c.matched.result c.args.keys.now.ring.now c.args.replay.now.ejector.rules c.args.replay.now.ejector.state c.args.steps.now c.args.replay.now c.in-Answered.host c.in-Answered.epoch c.in-Answered.t c.in-Answered.value c.matched.ensures)

pub returns-in-Failed : goal.returns-in-Failed
returns-in-Failed c =
    let x = λ (marks : List Mark). past_of_scan c.args.steps.now marks c.args.replay.now in
    told_of c.lost.result c.args.keys.now.ring.now c.args.replay.now.ejector.rules c.args.replay.now.ejector.state x (Failed c.in-Failed.host c.in-Failed.epoch c.in-Failed.kind c.in-Failed.t) c.args.event.now c.in-Failed.is
    (by_fault c.lost.result c.args.keys.now.ring.now c.args.replay.now.ejector.rules c.args.replay.now.ejector.state c.args.steps.now c.args.replay.now c.in-Failed.host c.in-Failed.epoch c.in-Failed.t c.in-Failed.kind c.lost.ensures)

pub returns-in-Swept : goal.returns-in-Swept
returns-in-Swept c =
    let x = λ (marks : List Mark). past_of_scan c.args.steps.now marks c.args.replay.now in
    told_of c.swept.result c.args.keys.now.ring.now c.args.replay.now.ejector.rules c.args.replay.now.ejector.state x (Swept c.in-Swept.t) c.args.event.now c.in-Swept.is
    (by_sweep c.swept.result c.args.keys.now.ring.now c.args.replay.now.ejector.rules c.args.replay.now.ejector.state c.args.steps.now c.args.replay.now c.in-Swept.t c.swept.ensures)
