-- Which changes of how the gate stands leave what another seat knows true.
use Rattle.std.proofs.Common.{◌≡◌, ℕ, ◌<◌, ◌≤◌, List, ◌++◌, sym, ap, ◌∙◌, subst, arith, Option, Some, None}
use mathlib.Core.Option.{some}
use Rattle.journal_core.specs.declared.step.Step.{Step as StepOf}
use Rattle.ticket_gate.specs.declared.view.Knowledge.{Knowledge}
use Rattle.ticket_gate.specs.declared.view.View.{View}
use Rattle.ticket_gate.specs.Journal.{steps_of, StartsWith}
use Rattle.ticket_gate.specs.Rule.{Standing, Agrees, OtherAgrees, ViewAgrees}
use Rattle.ticket_gate.proofs.JournalLemmas.{starts_longer}

-- from g to h no word falls and the journal only grows; the tickets and numbers of the seat j stay its own, and of its numbers the journal has no further step
pub record Carries {E A : Type 0} (g h : Standing E A) (j : ℕ) : Type 0 where
  pub drawn : g.drawn ≤ h.drawn
  pub serving : g.serving ≤ h.serving
  pub enrolled : g.enrolled ≤ h.enrolled
  pub ticket : (t : ℕ) → g.serving ≤ t → t < g.drawn → g.holder_of t ≡ j → (h.serving ≤ t) × (h.holder_of t ≡ j)
  pub inside : g.inside ≡ some j → (g.serving ≡ h.serving) × (h.inside ≡ some j) × (g.journal ≡ h.journal)
  pub number : (n : ℕ) → n < g.enrolled → g.owner_of n ≡ j → (h.owner_of n ≡ j) × (steps_of n h.journal ≡ steps_of n g.journal)
  pub more : (rest : List (StepOf E A)) × (h.journal ≡ g.journal ++ rest)

module _ {E A C : Type 0} (g h : Standing E A) (c : C) (j : ℕ) (on : Carries g h j) where
  pub agrees_on : (k : Knowledge E A C) → Agrees g c j k → Agrees h c j k
  agrees_on k f = record {
    last_served = let a = f.last_served in let b = on.serving in omega arith;
    last_drawn = let a = f.last_drawn in let b = on.drawn in omega arith;
    last_enrolled = let a = f.last_enrolled in let b = on.enrolled in omega arith;
    ticket = λ t is. let (waits, drawn, holds) = f.ticket t is in let (waits', holds') = on.ticket t waits drawn holds in let m = on.drawn in (waits', omega (arith, m, drawn), holds');
    inside = λ is. let (is_served, in_seat, has_seen) = f.inside is in let (same, stays, same_journal) = on.inside in_seat in (is_served ∙ ap Some same, stays, has_seen ∙ same_journal);
    number = λ n is. let (given_out, owns, own_steps) = f.number n is in let (owns', same_steps) = on.number n given_out owns in let m = on.enrolled in (omega (arith, m, given_out), owns', same_steps ∙ own_steps);
    spare = f.spare;
    seen = subst (λ l. StartsWith l k.seen) (sym on.more.1) (starts_longer g.journal k.seen on.more.0 f.seen);
    setting = f.setting;
  }

  pub other_agrees_on : (k : Knowledge E A C) (o : Option (Knowledge E A C)) → OtherAgrees g c j k o → OtherAgrees h c j k o
  other_agrees_on k None b = tt
  other_agrees_on k (Some l) (agrees, no_ticket, outside, apart) = (agrees_on l agrees, no_ticket, outside, apart)

  pub view_agrees_on : (v : View E A C) → ViewAgrees g c j v → ViewAgrees h c j v
  view_agrees_on v a = (agrees_on v.own a.0, other_agrees_on v.own v.other a.1)
