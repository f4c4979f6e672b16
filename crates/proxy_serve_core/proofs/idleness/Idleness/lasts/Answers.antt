use Rattle.proxy_serve_core.proofs.IdlenessLemmas.{tells_lasts}
use Rattle.proxy_serve_core.proofs.idleness.Idleness.lasts.Goals as goal

pub returns-clause-tells : goal.returns-clause-tells
returns-clause-tells c = λ sights told.
    let same = tells_lasts sights c.args.self.now told c.args.now c.args.ms in
    (λ is. same.0 (c.is_as_old.ensures.0 is), λ rested. c.is_as_old.ensures.1 (same.1 rested))
