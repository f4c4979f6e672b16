use Rattle.proxy_local.proofs.MoveLemmas.{IsBeside-step}
use Rattle.proxy_local.proofs.local.step_host.Goals as goal

pub returns-in-Err-clause-beside : goal.returns-in-Err-clause-beside
returns-in-Err-clause-beside g c = IsBeside-step _ _ _ c.step.ensures.makes.steps

pub returns-in-Ok-Idle-clause-beside : goal.returns-in-Ok-Idle-clause-beside
returns-in-Ok-Idle-clause-beside g c = IsBeside-step _ _ _ c.step.ensures.makes.steps

pub returns-in-Ok-NeedsLink-clause-beside : goal.returns-in-Ok-NeedsLink-clause-beside
returns-in-Ok-NeedsLink-clause-beside g c = IsBeside-step _ _ _ c.step.ensures.makes.steps

pub returns-in-Ok : goal.returns-in-Ok
returns-in-Ok g c = record {
  turns = c.step.ensures.makes.turns;
  beside = IsBeside-step _ _ _ c.step.ensures.makes.steps;
  idle = λ e. absurd cc;
}
