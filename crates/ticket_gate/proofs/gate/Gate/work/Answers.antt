use Rattle.std.proofs.Common.{◌+◌, [], sym, subst, ap, ◌∙◌}
use Rattle.ticket_gate.specs.Rule.{view_of}
use Rattle.ticket_gate.specs.Steps.{after_exit}
use Rattle.ticket_gate.specs.Visit.{journal_out}
use Rattle.ticket_gate.proofs.TurnLemmas.{holds_at_first, journal_of_state, has_made_turn}
use Rattle.ticket_gate.proofs.gate.Gate.work.Goals as goal

pub turn_inside-outcome-requires-clause-holds : goal.turn_inside-outcome-requires-clause-holds
turn_inside-outcome-requires-clause-holds g c =
    let R = g.S.Recorded in
    let r = c.requires in
    (c.args.ticket, holds_at_first R.journal R.setting R.legal _ c.args.number c.args.ticket _ _ r.inside r.ticket r.setting r.number)

pub leave-requires-clause-holds : goal.leave-requires-clause-holds
leave-requires-clause-holds g c =
    let R = g.S.Recorded in
    let r = c.requires in
    (c.args.number, c.turn_inside-outcome.ensures.holds c.args.ticket (holds_at_first R.journal R.setting R.legal _ c.args.number c.args.ticket _ _ r.inside r.ticket r.setting r.number))

pub returns-clause-done : goal.returns-clause-done
returns-clause-done g c =
    let R = g.S.Recorded in
    let r = c.requires in
    let t = c.turn_inside-outcome.ensures in
    let k = c.args.seat.now.me.0.own in
    let before = holds_at_first R.journal R.setting R.legal _ c.args.number c.args.ticket _ _ r.inside r.ticket r.setting r.number in
    let after = t.holds c.args.ticket before in
    let is = c.leave.ensures.left ∙ ap (λ v. (view_of (after_exit v.own (c.args.ticket + 1) (journal_out R.journal c.turn_inside-outcome.new.seat.me.1)), [])) t.view in
    has_made_turn R.legal R.cause c.args.self.now.setting k c.args.number (c.args.ticket + 1) c.args.event c.turn_inside-outcome.result (journal_out R.journal c.args.seat.now.me.1) (journal_out R.journal c.turn_inside-outcome.new.seat.me.1) c.leave.new.seat is
    (r.inside.seen ∙ sym (ap (λ m. journal_out R.journal m.1) r.inside.me)) r.setting
    (subst (R.legal c.args.self.now.setting) (sym (journal_of_state R.journal R.setting R.legal c.args.self.now.setting c.args.number c.args.ticket c.turn_inside-outcome.new.seat after)) after.is_legal) t.turned
