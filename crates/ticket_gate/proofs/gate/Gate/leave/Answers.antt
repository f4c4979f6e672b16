use Rattle.std.proofs.Common.{◌≡◌, rules, refl, subst, ap, sym, ◌∙◌}
use Rattle.ticket_gate.proofs.atomic_steps.LeaveLemmas.{serves_next}
use Rattle.ticket_gate.proofs.TurnLemmas.{left_with}
use Rattle.ticket_gate.proofs.gate.Gate.leave.Goals as goal

pub store-requires : goal.store-requires
store-requires g c =
    let R = g.S.Recorded in
    let (n, i) = c.requires.holds in
    let d = R.setting c.self.inside.table.shared.key.0.value in
    let given : d ≡ c.args.self.now.setting = ap (λ a. a.setting) c.self.view_is in (
      search rules,
      search rules,
      serves_next R.journal R.setting R.legal d _ _ n c.args.ticket _ c.args.seat.now.me c.args.seat.now.me.0.own i.state i.more i.me
          refl i.ticket i.inside i.number i.grown
          (subst (λ k. R.legal k (R.journal i.state)) (sym given) i.is_legal)
          (i.has_setting ∙ sym given) i.own,
    )

pub returns-clause-left : goal.returns-clause-left
returns-clause-left g c =
    let R = g.S.Recorded in
    let (n, i) = c.requires.holds in
    let (_, _, served) = c.store.ensures in
    left_with R.journal R.setting R.legal c.args.self.now.setting n c.args.ticket c.args.seat.now c.store.new.seat i served
