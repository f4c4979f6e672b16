use Rattle.std.proofs.Common.{subst}
use Rattle.std.specs.Prelude.{IfOk}
use Rattle.ticket_gate.specs.Journal.{AddsTurn}
use Rattle.ticket_gate.specs.Turns.{AloneFacts}
use Rattle.ticket_gate.proofs.JournalLemmas.{adds_turn-alone}
use Rattle.ticket_gate.proofs.alone.AloneTurns.turn.Goals.{in-Ok, in-Err}
use Rattle.ticket_gate.proofs.alone.AloneTurns.turn.Goals as goal

pub returns-clause-answered : goal.returns-clause-answered
returns-clause-answered g c =
    let R = g.S.Recorded in
    let s = c.self.inside.state in
    let t = adds_turn-alone (R.legal (R.setting s)) c.self.inside.pass (R.journal s) (R.journal c.turn.new.self) c.args.event c.turn.result c.turn.ensures.answered c.turn.ensures.legal c.self.invariant.is_legal in
    let A = g.row.S-Answer.Denot in
    let P : A → Type 0 = λ a. AddsTurn (R.legal (R.setting c.args.self.now.state)) c.args.self.now.pass (R.journal c.args.self.now.state) c.args.event a (R.journal c.turn.new.self) in
    let u : IfOk c.turn.result P = subst (λ (z : AloneFacts g.row.S.Denot). IfOk c.turn.result (λ a. AddsTurn (R.legal (R.setting z.state)) z.pass (R.journal z.state) c.args.event a (R.journal c.turn.new.self))) c.self.view_is t in
    elim c.match-turn.branch [ in-Ok w ↦ rw w.result-is (rw w.in-Ok.is at u) | in-Err w ↦ rw w.result-is tt ]
