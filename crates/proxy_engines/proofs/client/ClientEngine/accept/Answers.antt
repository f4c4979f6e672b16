use Rattle.proxy_engines.specs.ClientSteps.{StaysHeld}
use Rattle.proxy_engines.proofs.OwnHistoryLemmas.{keeps_same}
use Rattle.std.proofs.lemmas.Result.{IfOk-from_err, err_from_is_err_and}
use Rattle.proxy_engines.proofs.AnswerLemmas.{if_ok, if_err, moved_or_idle, idle_for}
use Rattle.std.proofs.Common.{false, inl, inr, refl}
use Rattle.proxy_history.specs.declared.refusal.Refusal.{Refusal}
use Rattle.proxy_engines.proofs.ClientMoves.{same_goes, told_then}
use Rattle.proxy_engines.specs.Moves.{told_by_step}
use Rattle.proxy_engines.proofs.IdleLemmas.{held_now}
use Rattle.proxy_engines.proofs.MoveLemmas.{step-err}
use Rattle.proxy_engines.proofs.client.ClientEngine.accept.Goals as goal

pub returns-then-not-may_accept-clause-moves : goal.returns-then-not-may_accept-clause-moves
returns-then-not-may_accept-clause-moves g c =
    record {
      turns = keeps_same _;
      goes = same_goes _ _ _ refl;
      unfailed = (refl, refl);
      due = tt;
    }

pub returns-then-not-may_accept-clause-accepts : goal.returns-then-not-may_accept-clause-accepts
returns-then-not-may_accept-clause-accepts g c =
    record {
      ends = ((refl, refl, refl), refl);
      ok = inr refl;
      err = tt;
      idle = λ _. inl (c.may_accept.ensures.not c.if-not-may_accept.true);
    }

pub returns-then-not-branch-clause-moves : goal.returns-then-not-branch-clause-moves
returns-then-not-branch-clause-moves g c =
    record {
      turns = keeps_same _;
      goes = c.fetch_if_none.ensures.goes _;
      unfailed = let same = c.fetch_if_none.ensures.looks.keeps.1 in rw (same.0, same.1) (refl, refl);
      due = tt;
    }

pub returns-in_err-fetch_if_none-clause-moves : goal.returns-in_err-fetch_if_none-clause-moves
returns-in_err-fetch_if_none-clause-moves g c =
    record {
      turns = keeps_same _;
      goes = step-err _ c.from_residual.result c.from_residual.ensures.0 (false, c.fetch_if_none.ensures.goes _);
      unfailed = IfOk-from_err c.from_residual.result _ c.from_residual.ensures.0;
      due = let (_, result_is, error_is) = err_from_is_err_and c.from_residual.result c.from_residual.ensures.1 in rw (result_is, error_is, c.in_err-fetch_if_none.ensures.looks.err) tt;
    }

pub returns-clause-moves : goal.returns-clause-moves
returns-clause-moves g c =
    record {
      turns = c.offer.ensures.moves.turns;
      goes = told_then _ _ _ _ _ _ (told_by_step c.offer.result) (c.fetch_if_none.ensures.goes _) c.offer.ensures.moves.goes;
      unfailed = rw c.fetch_if_none.ensures.looks.keeps.1.1 at (rw c.fetch_if_none.ensures.looks.keeps.1.0 at c.offer.ensures.moves.unfailed);
      due = c.offer.ensures.moves.due;
    }

pub returns-clause-accepts : goal.returns-clause-accepts
returns-clause-accepts g c =
    record {
      ends = rw (c.offer.ensures.offers.ends.0, c.offer.ensures.offers.ends.1) c.fetch_if_none.ensures.looks.ends;
      ok = if_ok _ _ c.offer.result (λ p told. moved_or_idle (StaysHeld _ _ _ _) p told) c.offer.ensures.offers.ok;
      err = if_err _ _ c.offer.result (λ e (_, turn). inr turn) c.offer.ensures.offers.err;
      idle = if_ok _ _ c.offer.result (λ p told idle.
          let held = idle_for (StaysHeld _ _ _ _) p told idle in
          rw held.same (inr (inl (held.request, held.waits, held_now (g.T.Turns.cause (g.T.Turns.facts c.args.turns.now).setting Refusal.Crowded) _ _ _ c.offer.ensures.moves.turns.begins held.crowded)))) c.offer.ensures.offers.ok;
    }

pub returns-then-not-branch-clause-accepts : goal.returns-then-not-branch-clause-accepts
returns-then-not-branch-clause-accepts g c =
    record {
      ends = c.fetch_if_none.ensures.looks.ends;
      ok = inr refl;
      err = tt;
      idle = λ _. inr (inr (c.in_ok-fetch_if_none.ensures.looks.next.none c.if-not-branch.true));
    }

pub returns-in_err-fetch_if_none-clause-accepts : goal.returns-in_err-fetch_if_none-clause-accepts
returns-in_err-fetch_if_none-clause-accepts g c =
    record {
      ends = c.fetch_if_none.ensures.looks.ends;
      ok = IfOk-from_err c.from_residual.result _ c.from_residual.ensures.0;
      err = let (_, result_is, error_is) = err_from_is_err_and c.from_residual.result c.from_residual.ensures.1 in rw (result_is, error_is) (inl c.in_err-fetch_if_none.ensures.looks.err);
      idle = IfOk-from_err c.from_residual.result _ c.from_residual.ensures.0;
    }
