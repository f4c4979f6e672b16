use Rattle.proxy_engines.proofs.AnswerLemmas.{if_ok, if_err, on_ok}
use Rattle.proxy_engines.specs.Moves.{told_by_step}
use Rattle.std.proofs.Common.{refl}
use Rattle.proxy_engines.proofs.ClientMoves.{over_goes, told_then}
use Rattle.proxy_engines.proofs.client.ClientEngine.stop_reading.Goals as goal

pub returns-clause-moves : goal.returns-clause-moves
returns-clause-moves g c =
    record {
      turns = c.finish.ensures.moves.turns;
      goes = let done = rw (← c.self.view_is) at c.requires.done in rw (← c.self.view_is)
          (told_then _ _ _ _ _ _ (told_by_step c.finish.result)
          (over_goes _ _ (rw (← c.self.view_is) at c.requires.stage) done.unbroken done.none done.all done.over)
          c.finish.ensures.moves.goes);
      unfailed = on_ok _ _ c.finish.result (λ p (moved, new). rw (new, ← c.self.view_is) (refl, refl)) c.finish.ensures.ok;
      due = c.finish.ensures.moves.due;
    }

pub returns-clause-stops : goal.returns-clause-stops
returns-clause-stops g c =
    record {
      ok = if_ok _ _ c.finish.result (λ p (moved, new). (rw new tt, moved)) c.finish.ensures.ok;
      err = if_err _ _ c.finish.result (λ e (_, _, turn). turn) c.finish.ensures.err;
    }
