use Rattle.proxy_engines.proofs.OwnHistoryLemmas.{keeps_same}
use Rattle.std.proofs.Common.{◌≡◌, ◌∙◌, ap, refl, sym, true, false, inl, inr}
use Rattle.proxy_history.specs.declared.event.Event.{Event}
use Rattle.proxy_engines.specs.Host.{HostOutboxState}
use Rattle.proxy_engines.proofs.AnswerLemmas.{if_err}
use Rattle.proxy_engines.proofs.MoveLemmas.{turn_told}
use Rattle.proxy_engines.proofs.RefusalLemmas.{expected, is_nothing_waiting, told_ok, told_plain}
use Rattle.proxy_engines.proofs.HostMoves.{stays_on, taken_on, taken_astray}
use Rattle.proxy_engines.proofs.host_outbox.HostOutbox.take.Goals as goal

pub returns-then-is_err-clause-moves : goal.returns-then-is_err-clause-moves
returns-then-is_err-clause-moves g c = λ k.
    record {
      turns = keeps_same _;
      goes = (false, rw (c.reserve.ensures.items, ← c.self.view_is) (stays_on _ k _ _ c.args.moment refl));
      plain = (tt, inl tt);
    }

pub returns-then-epoch-self-clause-moves : goal.returns-then-epoch-self-clause-moves
returns-then-epoch-self-clause-moves g c = λ k.
    record {
      turns = c.make_turn.ensures.turns;
      goes = let adds = rw c.in-Ok-Sent.field-0-is at c.in-Ok-Sent.ensures.answered in (
        true,
        rw (c.push_back_reserved.ensures.items, c.reserve.ensures.items, adds.steps, ← c.self.view_is)
            (taken_astray _ (g.T.Turns.facts c.args.turns.now).pass _ c.in-Ok-Sent.epoch _ c.args.moment c.in-Ok-Sent.text (rw (← c.self.view_is) at c.requires.nothing) c.if-self.false k c.if-epoch-self.true),
      );
      plain = (tt, inr (refl, refl));
    }

pub returns-else-epoch-self-clause-moves : goal.returns-else-epoch-self-clause-moves
returns-else-epoch-self-clause-moves g c = λ k.
    record {
      turns = c.make_turn.ensures.turns;
      goes = let adds = rw c.in-Ok-Sent.field-0-is at c.in-Ok-Sent.ensures.answered in
          rw (c.push_back_reserved.ensures.items, c.reserve.ensures.items, adds.steps, ← c.self.view_is)
          (taken_on _ (g.T.Turns.facts c.args.turns.now).pass _ c.in-Ok-Sent.epoch _ c.args.moment c.in-Ok-Sent.text (rw (← c.self.view_is) at c.requires.nothing) c.if-self.false k c.if-epoch-self.false);
      plain = tt;
    }

pub returns-in-Err-clause-moves : goal.returns-in-Err-clause-moves
returns-in-Err-clause-moves g c = λ k.
    record {
      turns = c.make_turn.ensures.turns;
      goes = turn_told _ c.told_as.result (told_ok c.in-Err.denied false c.told_as.result c.told_as.ensures (λ b. b ≡ false) (λ x is soft. refl)) (rw (c.reserve.ensures.items, ← c.self.view_is) (stays_on _ k _ _ c.args.moment c.in-Err.ensures.denied.rests));
      plain = if_err _ _ c.told_as.result (λ e (plain, due). (plain, inl due))
          (told_plain c.in-Err.denied false c.told_as.result c.told_as.ensures (g.T.Turns.cause (g.T.Turns.facts c.args.turns.now).setting) (Event.Taken c.self.inside.host) (g.T.Turns.facts c.make_turn.new.turns).seen c.in-Err.ensures.denied.due);
    }

pub returns-then-self-clause-moves : goal.returns-then-self-clause-moves
returns-then-self-clause-moves g c = λ k.
    record {
      turns = keeps_same _;
      goes = (false, stays_on _ k _ _ c.args.moment refl);
      plain = (tt, inr (ap (λ (l : HostOutboxState). l.is_astray) (sym c.self.view_is) ∙ c.if-self.true, refl));
    }

pub returns-then-self-clause-none : goal.returns-then-self-clause-none
returns-then-self-clause-none g c = tt

pub returns-then-self-clause-nothing_waits : goal.returns-then-self-clause-nothing_waits
returns-then-self-clause-nothing_waits g c = tt

pub returns-then-is_err-clause-none : goal.returns-then-is_err-clause-none
returns-then-is_err-clause-none g c = tt

pub returns-then-is_err-clause-nothing_waits : goal.returns-then-is_err-clause-nothing_waits
returns-then-is_err-clause-nothing_waits g c = tt

pub returns-then-epoch-self-clause-none : goal.returns-then-epoch-self-clause-none
returns-then-epoch-self-clause-none g c = tt

pub returns-then-epoch-self-clause-nothing_waits : goal.returns-then-epoch-self-clause-nothing_waits
returns-then-epoch-self-clause-nothing_waits g c = tt

pub returns-else-epoch-self-clause-none : goal.returns-else-epoch-self-clause-none
returns-else-epoch-self-clause-none g c = λ none. absurd cc

pub returns-else-epoch-self-clause-nothing_waits : goal.returns-else-epoch-self-clause-nothing_waits
returns-else-epoch-self-clause-nothing_waits g c = λ none. absurd cc

pub returns-in-Err-clause-none : goal.returns-in-Err-clause-none
returns-in-Err-clause-none g c = told_ok c.in-Err.denied false c.told_as.result c.told_as.ensures _ (λ x is soft _. rw c.reserve.ensures.items c.self.view_is)

pub returns-in-Err-clause-nothing_waits : goal.returns-in-Err-clause-nothing_waits
returns-in-Err-clause-nothing_waits g c =
    let made = (g.T.Turns.facts c.args.turns.now).setting in
    let seen = (g.T.Turns.facts c.make_turn.new.turns).seen in
    let event = Event.Taken c.self.inside.host in
    rw (← c.self.view_is)
    (told_ok c.in-Err.denied false c.told_as.result c.told_as.ensures _
    (λ x is soft _. is_nothing_waiting (λ r. g.T.Turns.cause made r event seen) c.self.inside.host x (expected g.T.Turns.cause g.met.T.CoreTurns.laws.refusals_mean made event seen c.in-Err.denied c.in-Err.ensures.denied.due x is soft)))
