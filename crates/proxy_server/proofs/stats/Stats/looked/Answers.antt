use Rattle.std.proofs.Common.{length, refl, ap, arith}
use Rattle.proxy_server.proofs.stats.Stats.looked.Goals as goal

pub returns-clause-newest : goal.returns-clause-newest
returns-clause-newest c = λ few.
    let long = ap length c.forget.ensures.items in
    let roomy = c.args.self.now.roomy in
    rw (c.push_within.ensures.items (omega (arith, few, long, roomy, c.forget.ensures.capacity)), c.forget.ensures.items, c.new.ensures) refl
