use Rattle.std.proofs.Common.{rules}
use Rattle.ticket_gate.proofs.atomic_steps.EnterLemmas.{looks_with_ticket}
use Rattle.ticket_gate.proofs.gate.Gate.wait.Goals as goal

pub load-served-requires : goal.load-served-requires
load-served-requires g c =
    let i = c.loop.invariant in
    (search rules, search rules, looks_with_ticket _ _ _ _ _ _ c.args.ticket _ i.1.alone i.1.ticket i.1.outside)
