use Rattle.std.proofs.Common.{refl, false}
use Rattle.proxy_engines.proofs.ClientMoves.{finished_goes, same_goes}
use Rattle.proxy_engines.proofs.RefusalLemmas.{is_due}
use Rattle.proxy_engines.proofs.client.ClientEngine.finish.Goals as goal

pub returns-in-Ok-clause-moves : goal.returns-in-Ok-clause-moves
returns-in-Ok-clause-moves g c =
    record {
      turns = c.make_turn.ensures.turns;
      goes = rw (c.in-Ok.ensures.answered.steps, ← c.self.view_is)
          (finished_goes _ (g.T.Turns.facts c.args.turns.now).pass c.in-Ok.answer _ (rw (← c.self.view_is) at c.requires.stage));
      unfailed = rw (← c.self.view_is) (refl, refl);
      due = tt;
    }

pub returns-in-Err-clause-moves : goal.returns-in-Err-clause-moves
returns-in-Err-clause-moves g c =
    record {
      turns = c.make_turn.ensures.turns;
      goes = (false, same_goes _ _ _ c.in-Err.ensures.denied.rests);
      unfailed = tt;
      due = is_due g.T.Turns.cause g.met.T.CoreTurns.laws.refusals_mean (g.T.Turns.facts c.args.turns.now).setting _ (g.T.Turns.facts c.make_turn.new.turns).seen c.in-Err.denied c.in-Err.ensures.denied.due (λ x none. none);
    }

pub returns-in-Ok-clause-ok : goal.returns-in-Ok-clause-ok
returns-in-Ok-clause-ok g c = rw (← c.self.view_is) (refl, refl)

pub returns-in-Ok-clause-err : goal.returns-in-Ok-clause-err
returns-in-Ok-clause-err g c = tt

pub returns-in-Err-clause-ok : goal.returns-in-Err-clause-ok
returns-in-Err-clause-ok g c = tt

pub returns-in-Err-clause-err : goal.returns-in-Err-clause-err
returns-in-Err-clause-err g c = (refl, c.in-Err.ensures.denied.rests, (_, refl))
