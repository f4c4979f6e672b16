use Rattle.proxy_core.proofs.turn.RecordedLemmas.{handover_of-journal_of}
use Rattle.proxy_core.proofs.machine.CoreOfRecorded.sight.Goals as goal

pub returns : goal.returns
returns g c =
    let e = c.hand_over.ensures in
    handover_of-journal_of c.args.self.now c.hand_over.result (λ i. record { rules = e.rules i; state = e.state i }) e.steps e.bytes
