use Rattle.proxy_engines.proofs.AnswerLemmas.{any_ok}
use Rattle.proxy_engines.specs.Client.{Client}
use Rattle.std.proofs.Common.{◌≡◌, false, ap, refl}
use Rattle.proxy_history.specs.declared.event.Event.{Event}
use Rattle.proxy_engines.proofs.MoveLemmas.{turn_told}
use Rattle.proxy_engines.proofs.RefusalLemmas.{expected, is_not_ready, told_ok, told_turn, told_due}
use Rattle.proxy_engines.proofs.ClientMoves.{handed_goes, same_goes}
use Rattle.proxy_engines.proofs.client.ClientEngine.hand.Goals as goal

pub returns-in-Ok-Bytes-clause-moves : goal.returns-in-Ok-Bytes-clause-moves
returns-in-Ok-Bytes-clause-moves g c =
    record {
      turns = c.make_turn.ensures.turns;
      goes = let adds = rw c.in-Ok-Bytes.field-0-is at c.in-Ok-Bytes.ensures.answered in
          rw (c.put.ensures, c.saturating_add-self-inside.ensures, adds.steps, ← c.self.view_is)
          (handed_goes _ (g.T.Turns.facts c.args.turns.now).pass _ c.in-Ok-Bytes.text (rw adds.steps at adds.few) (rw (← c.self.view_is) at c.requires.nothing) (rw (← c.self.view_is) at c.requires.live));
      unfailed = rw (c.put.ensures, ← c.self.view_is) (refl, refl);
      due = tt;
    }

pub returns-in-Err-clause-moves : goal.returns-in-Err-clause-moves
returns-in-Err-clause-moves g c =
    record {
      turns = c.make_turn.ensures.turns;
      goes = turn_told _ c.told_as.result (told_ok c.in-Err.denied false c.told_as.result c.told_as.ensures (λ b. b ≡ false) (λ x is soft. refl)) (same_goes _ _ _ c.in-Err.ensures.denied.rests);
      unfailed = any_ok _ c.told_as.result (refl, refl);
      due = told_due c.in-Err.denied false c.told_as.result c.told_as.ensures (g.T.Turns.cause (g.T.Turns.facts c.args.turns.now).setting) (Event.Handed c.self.inside.conn) (g.T.Turns.facts c.make_turn.new.turns).seen c.in-Err.ensures.denied.due;
    }

pub returns-in-Ok-Bytes-clause-hands : goal.returns-in-Ok-Bytes-clause-hands
returns-in-Ok-Bytes-clause-hands g c =
    record {
      stage = ap (λ (e : Client). e.stage) c.self.view_is;
      not_ready = λ e. absurd cc;
      err = tt;
    }

pub returns-in-Err-clause-hands : goal.returns-in-Err-clause-hands
returns-in-Err-clause-hands g c =
    record {
      stage = refl;
      not_ready = let made = (g.T.Turns.facts c.args.turns.now).setting in
          let seen = (g.T.Turns.facts c.make_turn.new.turns).seen in
          let event = Event.Handed c.self.inside.conn in
          rw (← c.self.view_is)
          (told_ok c.in-Err.denied false c.told_as.result c.told_as.ensures _
          (λ x is soft _. (refl, is_not_ready (λ r. g.T.Turns.cause made r event seen) c.self.inside.conn x (expected g.T.Turns.cause g.met.T.CoreTurns.laws.refusals_mean made event seen c.in-Err.denied c.in-Err.ensures.denied.due x is soft))));
      err = told_turn c.in-Err.denied false c.told_as.result c.told_as.ensures _ refl;
    }
