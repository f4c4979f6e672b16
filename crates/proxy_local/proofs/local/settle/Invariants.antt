use Rattle.std.proofs.Common.{◌≡◌}
use Rattle.proxy_engines.specs.Turns.{KeepsTurns, own_history}
use Rattle.proxy_local.specs.Moves.{IsBeside}
use Rattle.proxy_local.proofs.local.settle.Given as goal

abbrev pub invariant-loop : goal.invariant-loop
invariant-loop g l = record {
  turns : KeepsTurns (g.T.Turns.facts l.fn.turns) (g.T.Turns.facts l.turns);
  beside : IsBeside (own_history (g.T.Turns.facts l.fn.turns)) (own_history (g.T.Turns.facts l.turns));
}
