use Rattle.std.proofs.Common.{rules, ap, ◌∙◌, refl}
use Rattle.ticket_gate.proofs.atomic_steps.FrameLemmas.{alone_after, own_after}
use Rattle.ticket_gate.proofs.atomic_steps.ReadLemmas.{reads_drawn}
use Rattle.ticket_gate.proofs.atomic_steps.DrawLemmas.{draws_ticket}
use Rattle.ticket_gate.proofs.gate.Gate.draw.Goals as goal

pub load-ticket-requires : goal.load-ticket-requires
load-ticket-requires g c =
    let i = c.loop.invariant in
    (search rules, search rules, reads_drawn _ _ _ _ _ _ _ i.1.alone)

pub compare_exchange-requires : goal.compare_exchange-requires
compare_exchange-requires g c =
    let (_, at_rest, same) = c.loop.invariant in
    let (_, _, h) = c.load-ticket.ensures in
    let o = own_after c.loop.seat.me c.load-ticket.new.seat.me _ h in
    let (_, _, (n, numbered)) = c.requires in
    (search rules, search rules, draws_ticket _ _ _ _ _ _ _ _ n _ (alone_after _ _ _ at_rest.alone h) refl (ap (λ p. p.number) o ∙ (same.number ∙ numbered)) (ap (λ p. p.inside) o ∙ at_rest.outside))
