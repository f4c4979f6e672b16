use Rattle.std.proofs.Common.{◌≡◌, true}
use Rattle.proxy_engines.specs.Turns.{KeepsTurns, own_history}
use Rattle.proxy_local.specs.Moves.{IsBeside, RestsIdle}
use Rattle.proxy_local.proofs.HostLemmas.{FirstZip}
use Rattle.proxy_local.proofs.local.step_hosts.Given as goal

abbrev pub invariant-loop-host : goal.invariant-loop-host
invariant-loop-host g l = record {
  turns : KeepsTurns (g.T.Turns.facts l.fn.turns) (g.T.Turns.facts l.turns);
  beside : IsBeside (own_history (g.T.Turns.facts l.fn.turns)) (own_history (g.T.Turns.facts l.turns));
  idle : l.are_idle ≡ true → FirstZip (RestsIdle (g.T.Turns.cause (g.T.Turns.facts l.fn.turns).setting) (g.T.Turns.facts l.fn.turns).seen (g.T.Turns.facts l.turns).seen) l.host-index l.fn.hosts l.hosts;
}
