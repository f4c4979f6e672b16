use Rattle.std.proofs.Common.{◌≡◌, ◌+◌, ◌∷◌, [], ◌∙◌, rules, sym, ap, Some}
use Rattle.atomic_table.specs.Table.{rest}
use Rattle.ticket_gate.specs.Rule.{view_of}
use Rattle.ticket_gate.specs.Steps.{after_exit}
use Rattle.ticket_gate.specs.Visit.{journal_out}
use Rattle.ticket_gate.proofs.TurnLemmas.{taken, put_back, holds_again, journal_of_state}
use Rattle.ticket_gate.proofs.gate.Gate.look.Goals as goal

pub exchange-requires : goal.exchange-requires
exchange-requires g c =
    let (_, i) = c.requires.holds in
    (search rules, (Some i.state, ap (λ m. m.1) i.me ∙ ap (λ l. (0, Some i.state) ∷ rest l) (sym (ap (λ m. m.1) i.me))))

pub leave-requires-clause-holds : goal.leave-requires-clause-holds
leave-requires-clause-holds g c =
    let R = g.S.Recorded in
    let (n, i) = c.requires.holds in
    let x = c.unwrap-state.result in
    let k = c.args.seat.now.me.0.own in
    let (_, _, held, out) = c.exchange.ensures in
    let (_, _, _, back) = c.exchange-2.ensures in
    let same : x ≡ i.state = taken c.args.seat.now.me.1 i.state x c.exchange.result (ap (λ m. m.1) i.me) held c.unwrap-state.ensures in (
      n,
      holds_again R.journal R.setting R.legal c.args.self.now.setting n c.args.ticket c.args.seat.now c.exchange-2.new.seat i
          (put_back c.args.seat.now.me c.exchange.new.seat.me c.exchange-2.new.seat.me k i.state x i.me out back ∙ ap (λ s. (view_of k, (0, Some s) ∷ [])) same ∙ sym i.me),
    )

pub returns-clause-left : goal.returns-clause-left
returns-clause-left g c =
    let R = g.S.Recorded in
    let (n, i) = c.requires.holds in
    let x = c.unwrap-state.result in
    let k = c.args.seat.now.me.0.own in
    let (_, _, held, out) = c.exchange.ensures in
    let (_, _, _, back) = c.exchange-2.ensures in
    let same : x ≡ i.state = taken c.args.seat.now.me.1 i.state x c.exchange.result (ap (λ m. m.1) i.me) held c.unwrap-state.ensures in
    let me = put_back c.args.seat.now.me c.exchange.new.seat.me c.exchange-2.new.seat.me k i.state x i.me out back ∙ ap (λ s. (view_of k, (0, Some s) ∷ [])) same ∙ sym i.me in
    c.leave.ensures.left ∙ ap (λ m. (view_of (after_exit m.0.own (c.args.ticket + 1) (journal_out R.journal m.1)), [])) me

pub returns-clause-sight : goal.returns-clause-sight
returns-clause-sight g c =
    let R = g.S.Recorded in
    let (n, i) = c.requires.holds in
    let x = c.unwrap-state.result in
    let (_, _, held, _) = c.exchange.ensures in
    let same : x ≡ i.state = taken c.args.seat.now.me.1 i.state x c.exchange.result (ap (λ m. m.1) i.me) held c.unwrap-state.ensures in
    let s = ap R.setting same ∙ i.has_setting in
    let l = ap R.journal same ∙ sym (journal_of_state R.journal R.setting R.legal _ n c.args.ticket _ i) in
    c.sight-sight.ensures ∙ (λ k. R.sight_of (s k) (l k))
