use Rattle.proxy_engines.specs.Host.{LinkState}
use Rattle.std.proofs.Common.{◌≡◌, ap, Some, None, false, refl, inl, inr}
use Rattle.proxy_history.specs.declared.event.Event.{Event}
use Rattle.proxy_history.specs.declared.event.Kind.{Kind}
use Rattle.proxy_engines.specs.declared.link.Outcome.{Outcome}
use Rattle.proxy_engines.proofs.RefusalLemmas.{expected, is_unasked, told_ok, told_plain}
use Rattle.proxy_engines.proofs.HostMoves.{found_answered, gets_none, stays_on}
use Rattle.proxy_engines.specs.Faults.{told_by_outcome}
use Rattle.proxy_engines.proofs.AnswerLemmas.{if_err}
use Rattle.proxy_engines.proofs.MoveLemmas.{moves_none}
use Rattle.proxy_engines.proofs.link.Link.answer.Goals as goal

-- what is told of a value that nobody asked for
abbrev garbled : Outcome
garbled = Outcome.Fault Kind.Garbled None

pub returns-in-Ok-clause-moves : goal.returns-in-Ok-clause-moves
returns-in-Ok-clause-moves g c =
    record {
      turns = c.give.ensures.turns;
      goes = let now = c.in-Ok.ensures.answered in
          let steps = rw (c.host.ensures, c.epoch.ensures) at now.1.steps in
          rw (c.forget_moment.ensures, steps)
          (found_answered c.args.outbox.now c.args.self.now c.args.came.0 (g.T.Turns.facts c.args.turns.now).pass _ now.0 c.args.came.1 c.requires.none);
      plain = tt;
    }

pub returns-in-Err-clause-moves : goal.returns-in-Err-clause-moves
returns-in-Err-clause-moves g c =
    record {
      turns = c.give.ensures.turns;
      goes = let same : Some c.in-Err.value ≡ Some c.args.came.0 = ap Some c.in-Err.ensures.back in
          let unmoved = told_ok c.in-Err.denied garbled c.told_as.result c.told_as.ensures (λ o. told_by_outcome o ≡ None) (λ x is soft. refl) in
          moves_none _ c.told_as.result unmoved (false, rw (c.replace.ensures.after, same, ← c.self.view_is) (stays_on c.args.outbox.now _ _ _ c.args.came.1 c.in-Err.ensures.denied.rests));
      plain = let l = c.args.outbox.now in
          let due = rw (c.host.ensures, c.epoch.ensures) at c.in-Err.ensures.denied.due in
          if_err _ _ c.told_as.result (λ e (plain, due). (plain, inl due))
          (told_plain c.in-Err.denied garbled c.told_as.result c.told_as.ensures (g.T.Turns.cause (g.T.Turns.facts c.args.turns.now).setting) (Event.Answered l.host l.epoch c.args.came.0 c.args.came.1) (g.T.Turns.facts c.give.new.turns).seen due);
    }

pub returns-in-Err-clause-answers : goal.returns-in-Err-clause-answers
returns-in-Err-clause-answers g c =
    record {
      keeps = (ap (λ (k : LinkState). k.inbox) c.self.view_is, ap (λ (k : LinkState). k.counts) c.self.view_is);
      moved = told_ok c.in-Err.denied garbled c.told_as.result c.told_as.ensures _ (λ x is soft idle. absurd cc);
      fault = let made = (g.T.Turns.facts c.args.turns.now).setting in
          let seen = (g.T.Turns.facts c.give.new.turns).seen in
          let l = c.args.outbox.now in
          let v = c.args.came.0 in
          let event = Event.Answered l.host l.epoch v c.args.came.1 in
          let due = rw (c.host.ensures, c.epoch.ensures) at c.in-Err.ensures.denied.due in
          told_ok c.in-Err.denied garbled c.told_as.result c.told_as.ensures _
          (λ x is soft. inr (v, rw c.replace.ensures.after (ap Some c.in-Err.ensures.back), is_unasked (λ r. g.T.Turns.cause made r event seen) l.host l.epoch v c.args.came.1 x (expected g.T.Turns.cause g.met.T.CoreTurns.laws.refusals_mean made event seen c.in-Err.denied due x is soft)));
    }

pub returns-in-Ok-clause-answers : goal.returns-in-Ok-clause-answers
returns-in-Ok-clause-answers g c =
    record {
      keeps = (refl, refl);
      moved = λ idle. absurd cc;
      fault = tt;
    }

pub returns-in-Ok-clause-untaken : goal.returns-in-Ok-clause-untaken
returns-in-Ok-clause-untaken g c = (1, c.forget_moment.ensures)

pub returns-in-Err-clause-untaken : goal.returns-in-Err-clause-untaken
returns-in-Err-clause-untaken g c = gets_none _
