use Rattle.std.proofs.Common.{rules}
use Rattle.proxy_local.proofs.MoveLemmas.{GoesBeside-goes, GoesBeside-none, GoesBeside-then, GoesBeside-told}
use Rattle.proxy_local.proofs.local.step_client.Goals as goal

pub returns-in_err-spend-clause-goes : goal.returns-in_err-spend-clause-goes
returns-in_err-spend-clause-goes g c = GoesBeside-none _ _

pub returns-in-Err-clause-goes : goal.returns-in-Err-clause-goes
returns-in-Err-clause-goes g c = GoesBeside-told _ _ _ _ _ c.step.ensures.moves.goes

pub returns-in-Ok-flush-clause-goes : goal.returns-in-Ok-flush-clause-goes
returns-in-Ok-flush-clause-goes g c = GoesBeside-then _ _ _ _ _ _ (GoesBeside-told _ _ _ _ _ c.step.ensures.moves.goes) (GoesBeside-goes _ _ _ _ _ (c.flush.ensures.goes _))

pub returns-in-Err-flush-clause-goes : goal.returns-in-Err-flush-clause-goes
returns-in-Err-flush-clause-goes g c = GoesBeside-then _ _ _ _ _ _ (GoesBeside-told _ _ _ _ _ c.step.ensures.moves.goes) (GoesBeside-goes _ _ _ _ _ (c.flush.ensures.goes _))

pub returns-in-Ok-Cut-clause-goes : goal.returns-in-Ok-Cut-clause-goes
returns-in-Ok-Cut-clause-goes g c = GoesBeside-told _ _ _ _ _ c.step.ensures.moves.goes

pub returns-in-Ok : goal.returns-in-Ok
returns-in-Ok g c = record {
  turns = c.step.ensures.moves.turns;
  goes = GoesBeside-told _ _ _ _ _ c.step.ensures.moves.goes;
  ended = c.in-Ok.ensures.tells.ended;
  cut = search rules;
}
