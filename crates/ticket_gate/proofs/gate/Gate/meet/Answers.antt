use Rattle.std.proofs.Common.{rules, subst, ap, ◌∙◌}
use Rattle.ticket_gate.specs.declared.view.Knowledge.{Knowledge}
use Rattle.ticket_gate.specs.Gate.{PassFacts}
use Rattle.ticket_gate.specs.Journal.{Meets}
use Rattle.ticket_gate.proofs.SeatSharingLemmas.{pairs_passes, parts_passes}
use Rattle.ticket_gate.proofs.atomic_steps.CompareLemmas.{compares_passes}
use Rattle.ticket_gate.proofs.gate.Gate.meet.Goals as goal

pub join_seat-requires : goal.join_seat-requires
join_seat-requires g c =
    let i = c.first.invariant in
    let j = c.second.invariant in
    (search rules, search rules, search rules, search rules, pairs_passes _ _ _ _ _ _ _ _ (ap (λ m. m.0) i.0.alone) (ap (λ m. m.0) j.0.alone) i.0.no_ticket i.0.outside j.0.no_ticket j.0.outside)

pub load-requires : goal.load-requires
load-requires g c = (search rules, search rules, compares_passes _ _ _ _ g.met.S.Recorded.legal_before _ _ _ _ _)

pub split_seat-other-requires : goal.split_seat-other-requires
split_seat-other-requires g c =
    let i = c.first.invariant in
    let j = c.second.invariant in
    let (_, _, e) = c.join_seat.ensures in
    let (_, _, (h, _)) = c.load.ensures in
    let own = ap (λ m. m.0.own) h in
    let other = ap (λ m. m.0.other) h ∙ ap (λ m. m.0.other) e in (
      search rules,
      search rules,
      parts_passes _ _ _ _ _ c.first.inside.number c.second.inside.number c.load.new.seat.me.0 c.load.new.seat.me.0.own c.second.inside.seat.me.0.own
          (λ k. record { own = c.load.new.seat.me.0.own; other = other k })
          (ap (λ p. p.number) own ∙ (ap (λ m. m.0.own.number) e ∙ i.1)) j.1 (ap (λ p. p.ticket) own ∙ (ap (λ m. m.0.own.ticket) e ∙ i.0.no_ticket)) (ap (λ p. p.inside) own ∙ (ap (λ m. m.0.own.inside) e ∙ i.0.outside)),
    )

pub returns-clause-meet : goal.returns-clause-meet
returns-clause-meet g c =
    let i = c.first.invariant in
    let j = c.second.invariant in
    let (_, _, e) = c.join_seat.ensures in
    let (_, _, (_, meets)) = c.load.ensures in
    let P = Knowledge g.row.S-Event.Denot g.row.S-Answer.Denot g.row.S-Setting.Denot in
    let K = PassFacts g.row.S-Event.Denot g.row.S-Answer.Denot g.row.S-Setting.Denot in
    let own = ap (λ m. m.0.own) e in
    let setting = ap (λ p. p.setting) own ∙ ap (λ k. k.known.setting) c.first.view_is ∙ c.requires.0.1 in
    let m = meets c.second.inside.seat.me.0.own c.args.self.now.setting c.first.inside.number c.second.inside.number (ap (λ m. m.0.other) e) setting (ap (λ p. p.number) own ∙ i.1) j.1 in
    let m' = subst (λ (p : P). Meets (g.S.Recorded.legal c.args.self.now.setting) c.first.inside.number p.seen c.second.inside.number c.second.inside.seat.me.0.own.seen) own m in
    subst (λ (z : K × K). Meets (g.S.Recorded.legal c.args.self.now.setting) z.0.number z.0.known.seen z.1.number z.1.known.seen) (λ k. (c.first.view_is k, c.second.view_is k)) m'
