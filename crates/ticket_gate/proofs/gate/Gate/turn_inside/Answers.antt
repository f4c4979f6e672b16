use Rattle.std.proofs.Common.{◌≡◌, ◌∷◌, rules, sym, ap, ◌∙◌, Some}
use Rattle.atomic_table.specs.Table.{rest}
use Rattle.ticket_gate.specs.Visit.{journal_out}
use Rattle.ticket_gate.proofs.TurnLemmas.{taken, put_back, stays_inside, has_turned, journal_of_state}
use Rattle.ticket_gate.proofs.gate.Gate.turn_inside.Goals as goal

pub exchange-requires : goal.exchange-requires
exchange-requires g c =
    let (_, i) = c.requires.holds in
    (search rules, (Some i.state, ap (λ m. m.1) i.me ∙ ap (λ l. (0, Some i.state) ∷ rest l) (sym (ap (λ m. m.1) i.me))))

pub returns-clause-view : goal.returns-clause-view
returns-clause-view g c =
    let (_, _, _, out) = c.exchange.ensures in
    let (_, _, _, back) = c.exchange-2.ensures in
    ap (λ m. m.0) back ∙ ap (λ m. m.0) out

pub returns-clause-holds : goal.returns-clause-holds
returns-clause-holds g c = λ t i.
    let R = g.S.Recorded in
    let x = c.unwrap-state.result in
    let y = c.turn-outcome.new.self in
    let e = c.turn-outcome.ensures in
    let (_, _, held, out) = c.exchange.ensures in
    let (_, _, _, back) = c.exchange-2.ensures in
    let same : x ≡ i.state = taken c.args.seat.now.me.1 i.state x c.exchange.result (ap (λ m. m.1) i.me) held c.unwrap-state.ensures in
    stays_inside R.journal R.setting R.legal R.cause x y c.args.number c.args.event c.args.self.now.setting t c.args.seat.now c.exchange-2.new.seat c.turn-outcome.result i same
    (put_back c.args.seat.now.me c.exchange.new.seat.me c.exchange-2.new.seat.me c.args.seat.now.me.0.own i.state y i.me out back)
    e.answered e.legal e.refused e.setting

pub returns-clause-turned : goal.returns-clause-turned
returns-clause-turned g c =
    let R = g.S.Recorded in
    let (t, i) = c.requires.holds in
    let x = c.unwrap-state.result in
    let y = c.turn-outcome.new.self in
    let e = c.turn-outcome.ensures in
    let (_, _, held, out) = c.exchange.ensures in
    let (_, _, _, back) = c.exchange-2.ensures in
    let same : x ≡ i.state = taken c.args.seat.now.me.1 i.state x c.exchange.result (ap (λ m. m.1) i.me) held c.unwrap-state.ensures in
    has_turned R.journal R.setting R.legal R.cause x y c.args.number c.args.event c.args.self.now.setting _ _ c.turn-outcome.result
    (journal_of_state R.journal R.setting R.legal _ c.args.number t _ i ∙ ap R.journal (sym same))
    (ap (λ m. journal_out R.journal m.1) back)
    (ap R.setting same ∙ i.has_setting) e.answered e.refused
