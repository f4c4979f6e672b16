use Rattle.std.proofs.Common.{rules, sym, ap, ◌∙◌, refl}
use Rattle.ticket_gate.proofs.SeatLemmas.{not_none}
use Rattle.ticket_gate.proofs.atomic_steps.FrameLemmas.{alone_after, own_after}
use Rattle.ticket_gate.proofs.atomic_steps.ReadLemmas.{looks_without_ticket}
use Rattle.ticket_gate.proofs.atomic_steps.EnterLemmas.{enters_at_once}
use Rattle.ticket_gate.proofs.gate.Gate.enter_at_once.Goals as goal

pub load-served-requires : goal.load-served-requires
load-served-requires g c = let i = c.requires.1 in (search rules, search rules, looks_without_ticket _ _ _ _ _ _ _ i.alone i.no_ticket)

pub compare_exchange-drawn-requires : goal.compare_exchange-drawn-requires
compare_exchange-drawn-requires g c =
    let (_, i, (n, numbered)) = c.requires in
    let (_, _, (_, told)) = c.load-served.ensures in
    let h = told (λ is. not_none (sym i.no_ticket ∙ is)) in
    let o = own_after c.args.seat.now.me c.load-served.new.seat.me _ h in
    (search rules, search rules, enters_at_once _ _ _ _ _ _ _ _ n _ (alone_after _ _ _ i.alone h) refl (ap (λ p. p.last_served) o) (ap (λ p. p.number) o ∙ numbered) (ap (λ p. p.inside) o ∙ i.outside))
