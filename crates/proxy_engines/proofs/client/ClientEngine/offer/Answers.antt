use Rattle.proxy_engines.proofs.AnswerLemmas.{any_ok}
use Rattle.proxy_engines.proofs.OwnHistoryLemmas.{keeps_same}
use Rattle.proxy_engines.specs.Client.{Client}
use Rattle.proxy_engines.specs.declared.client.Progress.{Progress}
use Rattle.std.proofs.Common.{◌≡◌, ◌∙◌, IfOk, Some, refl, sym, ap, inl, inr, rules}
use Rattle.proxy_engines.proofs.ClientMoves.{arrived_closing, arrived_on, arrived_last, unanswered_goes}
use Rattle.proxy_history.specs.declared.event.Event.{Event}
use Rattle.proxy_engines.proofs.RefusalLemmas.{expected, is_crowded, told_ok, told_turn, told_due}
use Rattle.proxy_engines.proofs.client.ClientEngine.offer.Goals as goal

pub returns-then-is_last-clause-moves : goal.returns-then-is_last-clause-moves
returns-then-is_last-clause-moves g c =
    record {
      turns = c.arrive.ensures.turns;
      goes = let now = c.in-Ok.ensures.answered in
          rw (c.take.ensures.after, c.saturating_add-self-inside.ensures, now.1.steps, ← c.self.view_is)
          (arrived_last _ c.in-Some.request (g.T.Turns.facts c.args.turns.now).pass _ now.0 (rw (← c.self.view_is) at c.requires.stage) (sym c.take.ensures.value ∙ c.in-Some.is) (rw (← c.self.view_is) at c.requires.last) (rw now.1.steps at now.1.few)
          (sym c.in-Ok.ensures.last ∙ c.if-is_last.true));
      unfailed = rw (← c.self.view_is) (refl, refl);
      due = tt;
    }

pub returns-then-closes-clause-moves : goal.returns-then-closes-clause-moves
returns-then-closes-clause-moves g c =
    record {
      turns = c.arrive.ensures.turns;
      goes = let now = c.in-Ok.ensures.answered in
          rw (c.stop_behind.ensures, c.take.ensures.after, c.saturating_add-self-inside.ensures, now.1.steps, ← c.self.view_is)
          (arrived_closing _ c.in-Some.request (g.T.Turns.facts c.args.turns.now).pass _ now.0 (rw (← c.self.view_is) at c.requires.stage) (sym c.take.ensures.value ∙ c.in-Some.is) (rw (← c.self.view_is) at c.requires.last) (rw now.1.steps at now.1.few)
          (sym c.closes-closes.ensures ∙ c.if-closes.true));
      unfailed = rw (c.stop_behind.ensures, ← c.self.view_is) (refl, refl);
      due = tt;
    }

pub returns-else-closes-clause-moves : goal.returns-else-closes-clause-moves
returns-else-closes-clause-moves g c =
    record {
      turns = c.arrive.ensures.turns;
      goes = let now = c.in-Ok.ensures.answered in
          rw (c.take.ensures.after, c.saturating_add-self-inside.ensures, now.1.steps, ← c.self.view_is)
          (arrived_on _ c.in-Some.request (g.T.Turns.facts c.args.turns.now).pass _ now.0 (rw (← c.self.view_is) at c.requires.stage) (sym c.take.ensures.value ∙ c.in-Some.is) (rw (← c.self.view_is) at c.requires.last) (rw now.1.steps at now.1.few)
          (sym c.in-Ok.ensures.last ∙ c.if-is_last.false) (sym c.closes-closes.ensures ∙ c.if-closes.false));
      unfailed = rw (← c.self.view_is) (refl, refl);
      due = tt;
    }

pub returns-in-Err-clause-moves : goal.returns-in-Err-clause-moves
returns-in-Err-clause-moves g c =
    record {
      turns = c.arrive.ensures.turns;
      goes = let back = ap Some c.in-Err.ensures.back ∙ sym c.in-Some.is ∙ c.take.ensures.value in
          let unmoved : IfOk c.told_as.result (λ p. p ≡ Progress.Idle) = told_ok c.in-Err.denied Progress.Idle c.told_as.result c.told_as.ensures (λ p. p ≡ Progress.Idle) (λ x is soft. refl) in
          rw (c.replace.ensures.after, back, c.self.view_is) (unanswered_goes c.args.self.now _ _ _ c.in-Err.ensures.denied.rests unmoved);
      unfailed = any_ok _ c.told_as.result (rw (← c.self.view_is) (refl, refl));
      due = told_due c.in-Err.denied Progress.Idle c.told_as.result c.told_as.ensures (g.T.Turns.cause (g.T.Turns.facts c.args.turns.now).setting) (Event.Arrived c.self.inside.conn c.in-Some.request) (g.T.Turns.facts c.arrive.new.turns).seen c.in-Err.ensures.denied.due;
    }

pub returns-in_default-clause-moves : goal.returns-in_default-clause-moves
returns-in_default-clause-moves g c =
    record {
      turns = keeps_same _;
      goes = search rules;
      unfailed = rw (← c.self.view_is) (refl, refl);
      due = tt;
    }

pub returns-in-Err-clause-offers : goal.returns-in-Err-clause-offers
returns-in-Err-clause-offers g c =
    record {
      live = rw (ap (λ (e : Client). e.stage) c.self.view_is ∙ c.requires.stage) tt;
      ends = rw (← c.self.view_is) (refl, refl);
      ok = let back = ap Some c.in-Err.ensures.back ∙ sym c.in-Some.is ∙ c.take.ensures.value in
          let made = (g.T.Turns.facts c.args.turns.now).setting in
          let seen = (g.T.Turns.facts c.arrive.new.turns).seen in
          let event = Event.Arrived c.self.inside.conn c.in-Some.request in
          rw (c.replace.ensures.after, ← c.self.view_is)
          (told_ok c.in-Err.denied Progress.Idle c.told_as.result c.told_as.ensures _
          (λ x is soft. inr (
            refl,
            record {
              same = rw back refl;
              request = c.in-Some.request;
              waits = sym c.take.ensures.value ∙ c.in-Some.is;
              crowded = is_crowded (λ r. g.T.Turns.cause made r event seen) c.self.inside.conn c.in-Some.request x (expected g.T.Turns.cause g.met.T.CoreTurns.laws.refusals_mean made event seen c.in-Err.denied c.in-Err.ensures.denied.due x is soft);
            },
          )));
      err = let back = ap Some c.in-Err.ensures.back ∙ sym c.in-Some.is ∙ c.take.ensures.value in
          told_turn c.in-Err.denied Progress.Idle c.told_as.result c.told_as.ensures _ (rw (c.replace.ensures.after, back) c.self.view_is);
    }

pub returns-then-is_last-clause-offers : goal.returns-then-is_last-clause-offers
returns-then-is_last-clause-offers g c =
    record {
      live = tt;
      ends = rw (← c.self.view_is) (refl, refl);
      ok = inl refl;
      err = tt;
    }

pub returns-else-closes-clause-offers : goal.returns-else-closes-clause-offers
returns-else-closes-clause-offers g c =
    record {
      live = rw (ap (λ (e : Client). e.stage) c.self.view_is ∙ c.requires.stage) tt;
      ends = rw (← c.self.view_is) (refl, refl);
      ok = inl refl;
      err = tt;
    }

pub returns-in_default-clause-offers : goal.returns-in_default-clause-offers
returns-in_default-clause-offers g c =
    record {
      live = search rules;
      ends = rw (← c.self.view_is) (refl, refl);
      ok = search rules;
      err = tt;
    }
