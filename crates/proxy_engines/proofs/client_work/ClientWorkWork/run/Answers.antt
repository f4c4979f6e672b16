use Rattle.proxy_engines.proofs.OwnHistoryLemmas.{keeps_same, keeps_then}
use Rattle.proxy_engines.proofs.AnswerLemmas.{failed_is}
use Rattle.std.proofs.lemmas.Result.{IfOk-from_err, err_from_is_err_and}
use Rattle.std.proofs.Common.{◌∙◌, refl, false}
use Rattle.proxy_engines.proofs.ClientMoves.{same_goes, goes_told}
use Rattle.proxy_engines.proofs.client_work.ClientWorkWork.run.Goals as goal

pub loop-init : goal.loop-init
loop-init g c = ((false, same_goes c.args.self.now.engine _ _ refl), keeps_same _, (refl, refl))

pub returns-in_err-step-clause-goes : goal.returns-in_err-step-clause-goes
returns-in_err-step-clause-goes g c = let (goes, _, _) = c.loop.invariant in goes_told _ _ _ _ _ _ _ goes c.step.ensures.moves.goes

pub returns-in-Ended-clause-goes : goal.returns-in-Ended-clause-goes
returns-in-Ended-clause-goes g c = let (goes, _, _) = c.loop.invariant in goes_told _ _ _ _ _ _ _ goes c.step.ensures.moves.goes

pub loop-preserved-in-Idle : goal.loop-preserved-in-Idle
loop-preserved-in-Idle g c =
    let (goes, turns, faults) = c.loop.invariant in (
      goes_told _ _ _ _ _ _ _ goes c.step.ensures.moves.goes,
      keeps_then _ _ _ turns c.step.ensures.moves.turns,
      (c.in_ok-step.ensures.moves.unfailed.0 ∙ faults.0, c.in_ok-step.ensures.moves.unfailed.1 ∙ faults.1),
    )

pub loop-preserved : goal.loop-preserved
loop-preserved g c =
    let (goes, turns, faults) = c.loop.invariant in (
      goes_told _ _ _ _ _ _ _ goes c.step.ensures.moves.goes,
      keeps_then _ _ _ turns c.step.ensures.moves.turns,
      (c.in_ok-step.ensures.moves.unfailed.0 ∙ faults.0, c.in_ok-step.ensures.moves.unfailed.1 ∙ faults.1),
    )

pub returns-in_err-step-clause-turns : goal.returns-in_err-step-clause-turns
returns-in_err-step-clause-turns g c = let (_, turns, _) = c.loop.invariant in keeps_then _ _ _ turns c.step.ensures.moves.turns

pub returns-in-Ended-clause-turns : goal.returns-in-Ended-clause-turns
returns-in-Ended-clause-turns g c = let (_, turns, _) = c.loop.invariant in keeps_then _ _ _ turns c.step.ensures.moves.turns

pub returns-in-Ended-clause-failed : goal.returns-in-Ended-clause-failed
returns-in-Ended-clause-failed g c = tt

pub returns-in_err-step-clause-closed : goal.returns-in_err-step-clause-closed
returns-in_err-step-clause-closed g c = IfOk-from_err c.from_residual.result _ c.from_residual.ensures.0

pub returns-in_err-step-clause-failed : goal.returns-in_err-step-clause-failed
returns-in_err-step-clause-failed g c =
    let (_, result_is, error_is) = err_from_is_err_and c.from_residual.result c.from_residual.ensures.1 in
    rw (result_is, error_is) (failed_is _ _ _ _ c.in_err-step.ensures.tells.read_failed c.in_err-step.ensures.tells.write_failed)

pub returns-in_err-step-clause-unfailed : goal.returns-in_err-step-clause-unfailed
returns-in_err-step-clause-unfailed g c = IfOk-from_err c.from_residual.result _ c.from_residual.ensures.0

pub returns-in-Ended-clause-unfailed : goal.returns-in-Ended-clause-unfailed
returns-in-Ended-clause-unfailed g c =
    let (_, _, faults) = c.loop.invariant in
    (c.in_ok-step.ensures.moves.unfailed.0 ∙ faults.0, c.in_ok-step.ensures.moves.unfailed.1 ∙ faults.1)
