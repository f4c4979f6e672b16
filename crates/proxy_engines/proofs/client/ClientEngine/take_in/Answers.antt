use Rattle.proxy_engines.specs.ClientSteps.{StaysHeld}
use Rattle.proxy_engines.proofs.OwnHistoryLemmas.{keeps_same}
use Rattle.std.proofs.lemmas.Result.{IfOk-from_err, err_from_is_err_and}
use Rattle.proxy_engines.proofs.AnswerLemmas.{if_ok, if_err, moved_or_idle, idle_for}
use Rattle.std.proofs.Common.{false, inl, inr}
use Rattle.proxy_history.specs.declared.refusal.Refusal.{Refusal}
use Rattle.proxy_engines.proofs.ClientMoves.{told_then}
use Rattle.proxy_engines.specs.Moves.{told_by_step}
use Rattle.proxy_engines.proofs.IdleLemmas.{held_now}
use Rattle.proxy_engines.proofs.MoveLemmas.{step-err}
use Rattle.proxy_engines.proofs.client.ClientEngine.take_in.Goals as goal

pub returns-then-not-branch-clause-moves : goal.returns-then-not-branch-clause-moves
returns-then-not-branch-clause-moves g c =
    record {
      turns = c.read.ensures.moves.turns;
      goes = told_then _ _ _ _ _ _ (told_by_step c.read.result) (c.fetch_if_none.ensures.goes _) c.read.ensures.moves.goes;
      unfailed = rw c.fetch_if_none.ensures.looks.keeps.1.1 at (rw c.fetch_if_none.ensures.looks.keeps.1.0 at c.read.ensures.moves.unfailed);
      due = c.read.ensures.moves.due;
    }

pub returns-in_err-fetch_if_none-clause-moves : goal.returns-in_err-fetch_if_none-clause-moves
returns-in_err-fetch_if_none-clause-moves g c =
    record {
      turns = keeps_same _;
      goes = step-err _ c.from_residual.result c.from_residual.ensures.0 (false, c.fetch_if_none.ensures.goes _);
      unfailed = IfOk-from_err c.from_residual.result _ c.from_residual.ensures.0;
      due = let (_, result_is, error_is) = err_from_is_err_and c.from_residual.result c.from_residual.ensures.1 in rw (result_is, error_is, c.in_err-fetch_if_none.ensures.looks.err) tt;
    }

pub returns-clause-moves : goal.returns-clause-moves
returns-clause-moves g c =
    record {
      turns = c.offer.ensures.moves.turns;
      goes = told_then _ _ _ _ _ _ (told_by_step c.offer.result) (c.fetch_if_none.ensures.goes _) c.offer.ensures.moves.goes;
      unfailed = rw c.fetch_if_none.ensures.looks.keeps.1.1 at (rw c.fetch_if_none.ensures.looks.keeps.1.0 at c.offer.ensures.moves.unfailed);
      due = c.offer.ensures.moves.due;
    }

pub returns-then-is_to_stop-clause-moves : goal.returns-then-is_to_stop-clause-moves
returns-then-is_to_stop-clause-moves g c = c.stop_reading.ensures.moves

pub returns-clause-takes : goal.returns-clause-takes
returns-clause-takes g c =
    record {
      ok = if_ok _ _ c.offer.result (λ p told. (c.offer.ensures.offers.live, moved_or_idle (StaysHeld _ _ _ _) p told)) c.offer.ensures.offers.ok;
      err = if_err _ _ c.offer.result (λ e (_, turn). inr (inr turn)) c.offer.ensures.offers.err;
      idle = if_ok _ _ c.offer.result (λ p told idle.
          let held = idle_for (StaysHeld _ _ _ _) p told idle in
          rw held.same (inl (held.request, held.waits, held_now (g.T.Turns.cause (g.T.Turns.facts c.args.turns.now).setting Refusal.Crowded) _ _ _ c.offer.ensures.moves.turns.begins held.crowded))) c.offer.ensures.offers.ok;
    }

pub returns-then-not-branch-clause-takes : goal.returns-then-not-branch-clause-takes
returns-then-not-branch-clause-takes g c =
    record {
      ok = if_ok _ _ c.read.result (λ p (live, told). (live, moved_or_idle _ p told)) c.read.ensures.reads.ok;
      err = if_err _ _ c.read.result (λ e told. inr told) (rw c.fetch_if_none.ensures.looks.keeps.1.0 at c.read.ensures.reads.err);
      idle = if_ok _ _ c.read.result (λ p (_, told) idle. inr (idle_for _ p told idle)) (rw c.fetch_if_none.ensures.looks.keeps.1.0 at c.read.ensures.reads.ok);
    }

pub returns-in_err-fetch_if_none-clause-takes : goal.returns-in_err-fetch_if_none-clause-takes
returns-in_err-fetch_if_none-clause-takes g c =
    record {
      ok = IfOk-from_err c.from_residual.result _ c.from_residual.ensures.0;
      err = let (_, result_is, error_is) = err_from_is_err_and c.from_residual.result c.from_residual.ensures.1 in rw (result_is, error_is) (inl c.in_err-fetch_if_none.ensures.looks.err);
      idle = IfOk-from_err c.from_residual.result _ c.from_residual.ensures.0;
    }
