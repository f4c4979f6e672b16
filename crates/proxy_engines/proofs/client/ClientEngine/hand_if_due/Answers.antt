use Rattle.proxy_engines.proofs.OwnHistoryLemmas.{keeps_same}
use Rattle.proxy_engines.proofs.ClientMoves.{same_goes}
use Rattle.std.proofs.Common.{refl, rules}
use Rattle.std.proofs.lemmas.Result.{IfOk-weaker}
use Rattle.proxy_engines.proofs.IdleLemmas.{hands_nothing}
use Rattle.proxy_engines.proofs.client.ClientEngine.hand_if_due.Goals as goal

pub returns-then-self-clause-moves : goal.returns-then-self-clause-moves
returns-then-self-clause-moves g c =
    record {
      turns = keeps_same _;
      goes = same_goes _ _ _ refl;
      unfailed = (refl, refl);
      due = tt;
    }

pub returns-clause-moves : goal.returns-clause-moves
returns-clause-moves g c = c.hand.ensures.moves

pub returns-clause-hands : goal.returns-clause-hands
returns-clause-hands g c =
    record {
      stage = c.hand.ensures.hands.stage;
      nothing = let cause = g.T.Turns.cause (g.T.Turns.facts c.args.turns.now).setting in
          IfOk-weaker c.hand.result _ _ (λ b missing no. let (same, later) = missing no in (same, hands_nothing cause c.args.self.now (g.T.Turns.facts c.args.turns.now).seen (g.T.Turns.facts c.hand.new.turns).seen c.hand.ensures.moves.turns.begins later)) c.hand.ensures.hands.not_ready;
      err = c.hand.ensures.hands.err;
    }

pub returns-then-self-clause-hands : goal.returns-then-self-clause-hands
returns-then-self-clause-hands g c =
    record {
      stage = refl;
      nothing = λ _. (refl, search rules);
      err = tt;
    }
