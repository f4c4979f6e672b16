use Rattle.std.proofs.Common.{◌++◌}
use Rattle.proxy_engines.proofs.OwnHistoryLemmas.{connection_steps-own_steps}
use Rattle.proxy_engines.proofs.one_turn.open.Goals as goal
use Rattle.proxy_engines.proofs.one_turn.open.Goals.{in-Ok-Opened, in-Err}

pub returns-clause-new : goal.returns-clause-new
returns-clause-new g c =
    elim c.match-make_turn.branch [
      | in-Ok-Opened w ↦
          let makes = rw w.in-Ok-Opened.field-0-is at w.in-Ok-Opened.ensures.added in
          let before = (g.T.Turns.facts c.args.turns.now).seen in
          rw w.result-is (connection_steps-own_steps w.in-Ok-Opened.conn (g.T.Turns.facts c.args.turns.now).pass before makes.between
          (g.met.T.CoreTurns.laws.openings_are_new _ (before ++ makes.between) _ w.in-Ok-Opened.conn (rw makes.ends at makes.is_legal)))
      | in-Err w ↦ rw w.result-is tt
    ]

pub returns-clause-denied : goal.returns-clause-denied
returns-clause-denied g c =
    elim c.match-make_turn.branch [
      | in-Ok-Opened w ↦ rw w.result-is tt
      | in-Err w ↦ rw w.result-is w.in-Err.ensures.denied
    ]
