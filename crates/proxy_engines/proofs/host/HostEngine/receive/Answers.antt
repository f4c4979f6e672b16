use Rattle.std.proofs.Common.{inl, refl, rules}
use Rattle.proxy_engines.proofs.host.HostEngine.receive.Goals as goal

pub returns-clause-makes : goal.returns-clause-makes
returns-clause-makes g c =
    let moves = c.receive_on.ensures in
    record {
      turns = moves.turns;
      steps = inl (record { first = c.args.self.now; between = _; answer = c.receive_on.result; begins = inl (refl, refl, refl); whole = search rules; works = moves.works });
      due = moves.due;
    }
