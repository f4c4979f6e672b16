use Rattle.std.proofs.Common.{refl, ◌∙◌}
use Rattle.proxy_local.proofs.MoveLemmas.{GoesBeside-none, GoesBeside-then}
use Rattle.proxy_local.proofs.local.run_client.Goals as goal

pub loop-init : goal.loop-init
loop-init g c = record { pass = refl; setting = refl; goes = GoesBeside-none _ _ }

pub loop-preserved : goal.loop-preserved
loop-preserved g c = record {
  pass = c.step_all.ensures.pass ∙ c.loop.invariant.pass;
  setting = c.step_all.ensures.setting ∙ c.loop.invariant.setting;
  goes = GoesBeside-then _ _ _ _ _ _ c.loop.invariant.goes c.step_all.ensures.goes;
}

pub returns-in_err-step_all-clause-goes : goal.returns-in_err-step_all-clause-goes
returns-in_err-step_all-clause-goes g c = GoesBeside-then _ _ _ _ _ _ c.loop.invariant.goes c.step_all.ensures.goes

pub returns-in-Ended-clause-goes : goal.returns-in-Ended-clause-goes
returns-in-Ended-clause-goes g c = GoesBeside-then _ _ _ _ _ _ c.loop.invariant.goes c.step_all.ensures.goes

pub returns-in-Ended-clause-ended : goal.returns-in-Ended-clause-ended
returns-in-Ended-clause-ended g c = c.in_ok-step_all.ensures.ended c.in-Ended.is
