-- Two passes in one seat are compared.
use Rattle.std.proofs.Common.{◌≡◌, ℕ, List, ◌++◌, refl, sym, ap, ◌∙◌, subst, inl, inr, ⊎_elim, Option, Some}
use mathlib.Core.Option.{none}
use Rattle.atomic_table.specs.Table.{step, keeps, Allows}
use Rattle.journal_core.specs.declared.step.Step.{Step as StepOf}
use Rattle.ticket_gate.specs.declared.view.Knowledge.{Knowledge}
use Rattle.ticket_gate.specs.declared.view.View.{View}
use Rattle.ticket_gate.specs.Journal.{steps_of, StartsWith, Meets}
use Rattle.ticket_gate.specs.Rule.{ViewAgrees, GateRule}
use Rattle.ticket_gate.specs.Steps.{ComparesPasses, after_look}
use Rattle.ticket_gate.proofs.JournalLemmas.{either_begins, steps_of-between}
use Rattle.ticket_gate.proofs.atomic_steps.FrameLemmas.{Whole, serving_at, stays, goes_at}
use Rattle.ticket_gate.proofs.atomic_steps.ReadLemmas.{serving_is_read}

module _ {S E A C : Type 0} (journal : S → List (StepOf E A)) (setting : S → C) (legal : C → List (StepOf E A) → Type 0) (c : C) (legal_before : (d : C) (log more : List (StepOf E A)) → legal d (log ++ more) → legal d log) where
  abbrev Rule : Whole S E A C → Type 0
  Rule = GateRule journal setting legal c

  -- what the rule says of two passes in one view
  meets : (s : Whole S E A C) (r : Rule s) (id : ℕ) (k l : Knowledge E A C) (d : C) (n m : ℕ) → k.setting ≡ Some d → k.number ≡ Some n → l.number ≡ Some m → ViewAgrees r.standing c id (record { own = k; other = Some l })
      → Meets (legal d) n k.seen m l.seen
  meets s r id k l d n m has_setting numbered numbered' known =
      let (f, (f', _, _, numbers_differ)) = known in
      let is_legal = subst (λ (e : C). legal e r.standing.journal) (sym (f.setting d has_setting)) r.is_legal in
      let (_, _, own) = f.number n numbered in
      let (_, _, own') = f'.number m numbered' in
      ⊎_elim
      (λ (z : StartsWith k.seen l.seen). record {
        numbers_differ = numbers_differ n m numbered numbered';
        longer = k.seen;
        one_begins = inl (refl, z);
        is_legal = legal_before d k.seen f.seen.0 (subst (legal d) f.seen.1 is_legal);
        of_first = refl;
        of_second = ap (steps_of m) z.1 ∙ steps_of-between m l.seen z.0 f.seen.0 (ap (steps_of m) (sym (f.seen.1 ∙ ap (λ l. l ++ f.seen.0) z.1)) ∙ own');
      })
      (λ (z : StartsWith l.seen k.seen). record {
        numbers_differ = numbers_differ n m numbered numbered';
        longer = l.seen;
        one_begins = inr (refl, z);
        is_legal = legal_before d l.seen f'.seen.0 (subst (legal d) f'.seen.1 is_legal);
        of_first = ap (steps_of n) z.1 ∙ steps_of-between n k.seen z.0 f'.seen.0 (ap (steps_of n) (sym (f'.seen.1 ∙ ap (λ l. l ++ f'.seen.0) z.1)) ∙ own);
        of_second = refl;
      })
      (either_begins k.seen f.seen.0 l.seen f'.seen.0 (sym f.seen.1 ∙ f'.seen.1))

  pub compares_passes : (slots id : ℕ) (k : Knowledge E A C) (o : Option (Knowledge E A C)) (held : List (ℕ × Option S)) → Allows Rule slots id (record { own = k; other = o }, held) 1 (λ n. n) (ComparesPasses legal (step slots 1 0 0 none) (record { own = k; other = o }, held))
  compares_passes slots id k o held s r len at small =
      let v : View E A C = record { own = k; other = o } in
      let g = r.standing in
      let known = r.each_view id v at in
      let w : View E A C = record { own = after_look k g.serving; other = o } in
      let found = serving_at journal setting legal c s r in
      goes_at journal setting legal c s id 1 held (ComparesPasses legal (step slots 1 0 0 none) (v, held)) (λ n. n) g.serving found (
        w,
        keeps,
        tt,
        stays journal setting legal c s r 1 id g.serving v w held found at (λ i. i) (serving_is_read g c id k known.0, known.1),
        (refl, λ l d n m is has_setting numbered numbered'. meets s r id k l d n m has_setting numbered numbered' (subst (λ (z : Option (Knowledge E A C)). ViewAgrees g c id (record { own = k; other = z })) is known)),
      )
