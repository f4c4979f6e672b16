use Rattle.std.proofs.Common.{rules, ap}
use Rattle.ticket_gate.proofs.SeatSharingLemmas.{halves_spare}
use Rattle.ticket_gate.proofs.gate.Gate.split.Goals as goal

pub split_seat-other-requires : goal.split_seat-other-requires
split_seat-other-requires g c =
    let i = c.spare.invariant in
    (search rules, search rules, halves_spare _ _ _ _ _ _ (ap (λ m. m.0) i.0.alone) i.1.0 i.0.no_ticket i.0.outside)
