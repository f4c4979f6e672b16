use Rattle.std.proofs.Common.{◌≡◌}
use Rattle.proxy_core.specs.Recorded.{journal_of, made_with}
use Rattle.proxy_engines.specs.Turns.{own_steps}
use Rattle.proxy_local.specs.Moves.{GoesBeside}
use Rattle.proxy_local.proofs.local.run_client.Given as goal

abbrev pub invariant-loop : goal.invariant-loop
invariant-loop g l = record {
  pass : l.turns.pass ≡ l.fn.turns.pass;
  setting : made_with l.turns.state ≡ made_with l.fn.turns.state;
  goes : GoesBeside l.fn.client l.client (own_steps l.fn.turns.pass (journal_of l.fn.turns.state)) (own_steps l.turns.pass (journal_of l.turns.state));
}
