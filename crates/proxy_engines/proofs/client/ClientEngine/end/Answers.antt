use Rattle.proxy_engines.proofs.OwnHistoryLemmas.{keeps_same}
use Rattle.proxy_engines.proofs.ClientMoves.{same_goes}
use Rattle.proxy_engines.specs.Client.{Client}
use Rattle.proxy_engines.proofs.AnswerLemmas.{if_ok, if_err, on_ok}
use Rattle.std.proofs.Common.{rules, refl, inl, inr, ap}
use Rattle.proxy_engines.proofs.client.ClientEngine.end.Goals as goal

pub returns-clause-moves : goal.returns-clause-moves
returns-clause-moves g c =
    record {
      turns = c.close.ensures.moves.turns;
      goes = c.close.ensures.moves.goes;
      unfailed = on_ok _ _ c.close.result (λ p (_, new). rw new (refl, refl)) c.close.ensures.ok;
      due = c.close.ensures.moves.due;
    }

pub returns-then-self-clause-moves : goal.returns-then-self-clause-moves
returns-then-self-clause-moves g c =
    record {
      turns = keeps_same _;
      goes = same_goes _ _ _ refl;
      unfailed = (refl, refl);
      due = tt;
    }

pub returns-clause-ends : goal.returns-clause-ends
returns-clause-ends g c =
    record {
      ok = if_ok _ _ c.close.result (λ p (ended, new). inr (ended, ap (λ (e : Client). e.stage) new)) c.close.ensures.ok;
      err = if_err _ _ c.close.result (λ e (_, _, turn). turn) c.close.ensures.err;
      idle = if_ok _ _ c.close.result (λ p (ended, _) idle. absurd cc) c.close.ensures.ok;
    }

pub returns-then-self-clause-ends : goal.returns-then-self-clause-ends
returns-then-self-clause-ends g c =
    record {
      ok = inl refl;
      err = tt;
      idle = search rules;
    }
