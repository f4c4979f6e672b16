use Rattle.ticket_gate.proofs.TurnLemmas.{journal_of_state, seated_again, turn_told}
use Rattle.std.proofs.Common.{◌≡◌, subst, sym, ap}
use Rattle.std.specs.Prelude.{IfOk, IfErr}
use Rattle.ticket_gate.specs.Hold.{known_outside}
use Rattle.ticket_gate.specs.Journal.{AddsTurn}
use Rattle.ticket_gate.specs.Turns.{RefusesTurn, SeatedFacts}
use Rattle.ticket_gate.proofs.seated.SeatedTurns.turn.Goals as goal

pub invariant_of-self-2 : goal.invariant_of-self-2
invariant_of-self-2 g c =
    let R = g.S.Recorded in
    let n = c.self.inside.number in
    let (seated, _) = c.in-Some.ensures n c.self.invariant in
    let t = c.turn_inside-outcome.ensures in
    let again = seated_again R.journal R.setting R.legal c.self.inside.gate.now n c.in-Some.ticket _ _ seated t.gate t.view (t.holds _ seated.stands) in
    (c.stay_or_leave-self-inside.ensures n again).0

pub returns-clause-answered : goal.returns-clause-answered
returns-clause-answered g c =
    let R = g.S.Recorded in
    let n = c.self.inside.number in
    let (seated, grows) = c.in-Some.ensures n c.self.invariant in
    let t = c.turn_inside-outcome.ensures in
    let held = t.holds _ seated.stands in
    let again = seated_again R.journal R.setting R.legal c.self.inside.gate.now n c.in-Some.ticket _ _ seated t.gate t.view held in
    let facts = (c.stay_or_leave-self-inside.ensures n again).1 in
    let legal = subst (R.legal c.self.inside.gate.now.setting) (sym (journal_of_state R.journal R.setting R.legal _ n c.in-Some.ticket _ held)) held.is_legal in
    let V = SeatedFacts g.row.S-Event.Denot g.row.S-Answer.Denot g.row.S-Setting.Denot in
    let now = known_outside R.journal c.stay_or_leave-self-inside.result c.stay_or_leave-self-inside.new.seat.me in
    subst (λ (v : V). IfOk c.told_by_state.result (λ answer. AddsTurn (R.legal v.gate.setting) v.pass.number v.pass.known.seen c.args.event answer now.seen)) c.self.view_is
    (turn_told R.legal R.cause c.self.inside.gate.now.setting (Unit {0}) n c.args.event c.turn_inside-outcome.result c.told_by_state.result _ _ _ now.seen c.told_by_state.ensures grows t.turned legal (ap (λ p. p.known.seen) facts)).0

pub returns-clause-refused : goal.returns-clause-refused
returns-clause-refused g c =
    let R = g.S.Recorded in
    let n = c.self.inside.number in
    let (seated, grows) = c.in-Some.ensures n c.self.invariant in
    let t = c.turn_inside-outcome.ensures in
    let held = t.holds _ seated.stands in
    let again = seated_again R.journal R.setting R.legal c.self.inside.gate.now n c.in-Some.ticket _ _ seated t.gate t.view held in
    let facts = (c.stay_or_leave-self-inside.ensures n again).1 in
    let legal = subst (R.legal c.self.inside.gate.now.setting) (sym (journal_of_state R.journal R.setting R.legal _ n c.in-Some.ticket _ held)) held.is_legal in
    let V = SeatedFacts g.row.S-Event.Denot g.row.S-Answer.Denot g.row.S-Setting.Denot in
    let now = known_outside R.journal c.stay_or_leave-self-inside.result c.stay_or_leave-self-inside.new.seat.me in
    subst (λ (v : V). IfErr c.told_by_state.result (RefusesTurn (R.cause v.gate.setting) (now.last_drawn ≡ 18446744073709551615) v.pass.number v.pass.known.seen c.args.event now.seen)) c.self.view_is
    (turn_told R.legal R.cause c.self.inside.gate.now.setting (now.last_drawn ≡ 18446744073709551615) n c.args.event c.turn_inside-outcome.result c.told_by_state.result _ _ _ now.seen c.told_by_state.ensures grows t.turned legal (ap (λ p. p.known.seen) facts)).1
