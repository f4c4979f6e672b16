-- A spare place is given the next number.
use Rattle.std.proofs.Common.{◌≡◌, ℕ, ◌+◌, ◌<◌, ◌≤◌, eqb, false, List, [], set, refl, sym, ap, ◌∙◌, subst, arith, le_refl, Option, Some, None}
use mathlib.Core.Option.{none, some}
use lib.ListN.{get_elem?}
use prog.Atomic.{either}
use Rattle.atomic_table.specs.Table.{step, keeps, stepped, Allows}
use Rattle.journal_core.specs.declared.step.Step.{Step as StepOf}
use Rattle.ticket_gate.specs.declared.view.Knowledge.{Knowledge}
use Rattle.ticket_gate.specs.Rule.{Standing, Agrees, ViewAgrees, GateRule, view_of}
use Rattle.ticket_gate.specs.Steps.{SeatState, TakesNumber}
use Rattle.ticket_gate.proofs.JournalLemmas.{append-nil, steps_of-new, passes_below-more}
use Rattle.ticket_gate.proofs.SeatLemmas.{each_after, not_inside, not_none, same_number, given, given-here, given-else}
use Rattle.ticket_gate.proofs.OtherSeatLemmas.{Carries, view_agrees_on}
use Rattle.ticket_gate.proofs.StatePlaceLemmas.{placed-set}
use Rattle.ticket_gate.proofs.atomic_steps.FrameLemmas.{Whole, enrolled_at, stays, goes_at, goes_if}

module _ {S E A C : Type 0} (journal : S → List (StepOf E A)) (setting : S → C) (legal : C → List (StepOf E A) → Type 0) (c : C) where
  abbrev Rule : Whole S E A C → Type 0
  Rule = GateRule journal setting legal c

  abbrev numbered : Knowledge E A C → ℕ → Knowledge E A C
  numbered k n = record k { number = Some n; seen = [] }

  -- the exchange finds the number that the place expects
  gives_number : (s : Whole S E A C) (r : Rule s) (id old new : ℕ) (k : Knowledge E A C) (held : List (ℕ × Option S)) → r.standing.enrolled ≡ old → new ≡ old + 1 → old < 256 → k.number ≡ None → k.inside ≡ false
      → get_elem? s.views id ≡ some (view_of k) → Rule (stepped s 2 new id held (view_of (numbered k old)) keeps)
  gives_number s r id old new k held is up room no_number outside at =
      let g = r.standing in
      let f = (r.each_view id (view_of k) at).0 in
      let h : Standing E A = record g { enrolled = new; owner_of = given old id g.owner_of } in
      let more : g.enrolled ≤ new = omega arith in
      let carries : (j : ℕ) → Carries g h j = λ j. record {
        drawn = le_refl g.drawn;
        serving = le_refl g.serving;
        enrolled = more;
        ticket = λ t a b its. (a, its);
        inside = λ its. (refl, its, refl);
        number = λ n l its. (given-else old id n g.owner_of (λ q. omega arith) ∙ its, refl);
        more = ([], sym (append-nil g.journal));
      } in
      let mine : Agrees h c id (numbered k old) = record {
        last_served = f.last_served;
        last_drawn = f.last_drawn;
        last_enrolled = let a = f.last_enrolled in omega arith;
        ticket = f.ticket;
        inside = λ i. absurd (not_inside (sym outside ∙ i));
        number = λ n is'. let q : old ≡ n = same_number old n is' in (
          omega arith,
          ap h.owner_of (sym q) ∙ given-here old id g.owner_of,
          steps_of-new n g.journal (passes_below-more g.enrolled n (omega arith) g.journal r.passes),
        );
        spare = λ is'. absurd (not_none (sym is'));
        seen = (g.journal, refl);
        setting = f.setting;
      } in record {
        standing = h;
        words = ap (λ (words : List ℕ). set words 2 new) r.words;
        behind = r.behind;
        few = omega arith;
        is_legal = r.is_legal;
        passes = passes_below-more g.enrolled new more g.journal r.passes;
        placed = placed-set journal setting g.journal c s.homes s.views id (view_of k) (view_of (numbered k old)) g.inside at (λ i. i) r.placed;
        each_view = each_after (ViewAgrees h c) s.views id (view_of (numbered k old)) (mine, tt) (λ j v _ there. view_agrees_on g h c j (carries j) v (r.each_view j v there));
      }

  takes_number-own : (slots id old new : ℕ) (k : Knowledge E A C) (held : List (ℕ × Option S)) → new ≡ old + 1 → old < 256 → k.number ≡ None → k.inside ≡ false
      → Allows Rule slots id (view_of k, held) 2 (λ n. either (eqb n old) new n) (TakesNumber (step slots 2 old new none) (view_of k, held))
  takes_number-own slots id old new k held up room no_number outside s r len at small =
      let then = TakesNumber (step slots 2 old new none) (view_of k, held) in
      let n = r.standing.enrolled in
      let found = enrolled_at journal setting legal c s r in
      goes_at journal setting legal c s id 2 held then (λ n. either (eqb n old) new n) n found (goes_if journal setting legal c s id 2 held then n old new
      (λ is. (view_of (numbered k old), keeps, tt, gives_number s r id old new k held is up room no_number outside at, ((λ _. refl), λ apart. absurd (apart is))))
      (λ apart. (view_of k, keeps, tt, stays journal setting legal c s r 2 id n (view_of k) (view_of k) held found at (λ i. i) (r.each_view id (view_of k) at), ((λ is. absurd (apart is)), λ _. refl))))

  pub takes_number : (slots id old new : ℕ) (me : SeatState S E A C) → me ≡ (view_of me.0.own, []) → new ≡ old + 1 → old < 256 → me.0.own.number ≡ None → me.0.own.inside ≡ false
      → Allows Rule slots id me 2 (λ n. either (eqb n old) new n) (TakesNumber (step slots 2 old new none) me)
  takes_number slots id old new me is up room no_number outside = subst (λ (m : SeatState S E A C). Allows Rule slots id m 2 (λ n. either (eqb n old) new n) (TakesNumber (step slots 2 old new none) m)) (sym is)
      (takes_number-own slots id old new me.0.own [] up room no_number outside)
