use Rattle.proxy_engines.proofs.HostMoves.{starts_same}
use Rattle.proxy_history.specs.SeenSteps.{history_of_seen}
use Rattle.proxy_engines.specs.Turns.{own_steps}
use Rattle.std.proofs.Common.{◌++◌, append_assoc, ap, [], ◌∷◌, ◌∙◌}
use Rattle.journal_core.specs.Journal.{step_by}
use Rattle.proxy_engines.proofs.OwnHistoryLemmas.{own_steps-push, length-own_steps}
use Rattle.proxy_engines.proofs.one_turn.offer_event.Goals as goal

pub returns-in-Ok-clause-answered : goal.returns-in-Ok-clause-answered
returns-in-Ok-clause-answered g c =
    let makes = c.in-Ok.ensures.answered in
    let same_pass = c.turn.ensures.same.pass in
    let pass = (g.T.Turns.facts c.args.turns.now).pass in
    let before = (g.T.Turns.facts c.args.turns.now).seen in
    let after = (g.T.Turns.facts c.turn.new.self).seen in
    record {
      steps = rw same_pass (own_steps-push pass before after c.args.event c.in-Ok.answer makes.own);
      fits = g.met.T.CoreTurns.laws.answers_fit _ (before ++ makes.between) (step_by pass c.args.event c.in-Ok.answer) (rw makes.ends at makes.is_legal);
      few = rw same_pass (length-own_steps pass after (g.met.T.CoreTurns.laws.are_few_steps _ after makes.is_legal));
    }

pub returns-in-Ok-clause-turns : goal.returns-in-Ok-clause-turns
returns-in-Ok-clause-turns g c =
    record {
      pass_is = c.turn.ensures.same.pass;
      setting_is = c.turn.ensures.same.setting;
      begins = let makes = c.in-Ok.ensures.answered in
          (makes.between ++ step_by (g.T.Turns.facts c.args.turns.now).pass c.args.event c.in-Ok.answer ∷ [], makes.ends ∙ append_assoc (g.T.Turns.facts c.args.turns.now).seen makes.between _);
    }

pub returns-in-Err-Spent-clause-turns : goal.returns-in-Err-Spent-clause-turns
returns-in-Err-Spent-clause-turns g c =
    record {
      pass_is = c.turn.ensures.same.pass;
      setting_is = c.turn.ensures.same.setting;
      begins = let (back, same, _) = rw c.in-Err-Spent.field-0-is at c.in-Err-Spent.ensures.refused in rw same (starts_same _);
    }

pub returns-in-Err-State-clause-turns : goal.returns-in-Err-State-clause-turns
returns-in-Err-State-clause-turns g c =
    record {
      pass_is = c.turn.ensures.same.pass;
      setting_is = c.turn.ensures.same.setting;
      begins = let (back, refused) = rw c.in-Err-State.field-0-is at c.in-Err-State.ensures.refused in refused.0.begins;
    }

pub returns-in-Ok-clause-added : goal.returns-in-Ok-clause-added
returns-in-Ok-clause-added g c = c.in-Ok.ensures.answered

pub returns-in-Ok-clause-back : goal.returns-in-Ok-clause-back
returns-in-Ok-clause-back g c = tt

pub returns-in-Ok-clause-denied : goal.returns-in-Ok-clause-denied
returns-in-Ok-clause-denied g c = tt

pub returns-in-Err-Spent-clause-added : goal.returns-in-Err-Spent-clause-added
returns-in-Err-Spent-clause-added g c = tt

pub returns-in-Err-Spent-clause-answered : goal.returns-in-Err-Spent-clause-answered
returns-in-Err-Spent-clause-answered g c = tt

pub returns-in-Err-Spent-clause-back : goal.returns-in-Err-Spent-clause-back
returns-in-Err-Spent-clause-back g c = let (back, same, _) = rw c.in-Err-Spent.field-0-is at c.in-Err-Spent.ensures.refused in back

pub returns-in-Err-Spent-clause-denied : goal.returns-in-Err-Spent-clause-denied
returns-in-Err-Spent-clause-denied g c =
    record {
      rests = let (back, same, _) = rw c.in-Err-Spent.field-0-is at c.in-Err-Spent.ensures.refused in rw c.turn.ensures.same.pass (ap (own_steps (g.T.Turns.facts c.args.turns.now).pass) same);
      due = tt;
    }

pub returns-in-Err-State-clause-added : goal.returns-in-Err-State-clause-added
returns-in-Err-State-clause-added g c = tt

pub returns-in-Err-State-clause-answered : goal.returns-in-Err-State-clause-answered
returns-in-Err-State-clause-answered g c = tt

pub returns-in-Err-State-clause-back : goal.returns-in-Err-State-clause-back
returns-in-Err-State-clause-back g c = let (back, refused) = rw c.in-Err-State.field-0-is at c.in-Err-State.ensures.refused in back

pub returns-in-Err-State-clause-denied : goal.returns-in-Err-State-clause-denied
returns-in-Err-State-clause-denied g c =
    record {
      rests = let (back, refused) = rw c.in-Err-State.field-0-is at c.in-Err-State.ensures.refused in rw c.turn.ensures.same.pass (ap history_of_seen refused.0.own);
      due = let (back, refused) = rw c.in-Err-State.field-0-is at c.in-Err-State.ensures.refused in refused.1;
    }
