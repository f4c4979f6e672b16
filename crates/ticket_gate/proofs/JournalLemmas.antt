-- Lists of steps, and beginnings of lists.
use Rattle.std.proofs.Common.{◌≡◌, ◌≢◌, ◌⊎◌, ℕ, ◌≤◌, ◌<◌, eqb, eq-eqb, ne_eqb, List, [], ◌∷◌, ◌++◌, refl, sym, ap, ◌∙◌, subst, inl, inr, ⊎_elim, append_assoc, arith, Result, Ok, Err}
use Rattle.std.specs.Prelude.{IfOk}
use Rattle.std.proofs.lemmas.List.Elements.{filter-append}
use Rattle.journal_core.specs.declared.step.Step.{Step as StepOf}
use Rattle.journal_core.specs.Journal.{step_by}
use Rattle.ticket_gate.specs.Journal.{steps_of, StartsWith, PassesBelow, AreOf, AddsTurn, GrowsByOthers}

module _ {X : Type 0} where
  pub append-nil : (xs : List X) → xs ++ [] ≡ xs
  append-nil [] = refl
  append-nil (x ∷ xs) = ap {B = List X} (λ l. x ∷ l) (append-nil xs)

  pub nothing_before : (xs ys : List X) → xs ++ ys ≡ [] → xs ≡ []
  nothing_before [] ys e = refl
  nothing_before (x ∷ xs) ys e = absurd (cc)

  pub nothing_added : (xs ys : List X) → xs ++ ys ≡ xs → ys ≡ []
  nothing_added [] ys e = e
  nothing_added (x ∷ xs) ys e = let tails : xs ++ ys ≡ xs = cc in nothing_added xs ys tails

  pub starts_itself : (xs : List X) → StartsWith xs xs
  starts_itself xs = ([], sym (append-nil xs))

  pub starts_longer : (journal seen more : List X) → StartsWith journal seen → StartsWith (journal ++ more) seen
  starts_longer journal seen more starts = (starts.0 ++ more, ap (λ l. l ++ more) starts.1 ∙ append_assoc seen starts.0 more)

  -- of two beginnings of one list the shorter begins the longer
  pub either_begins : (a b c d : List X) → a ++ b ≡ c ++ d → StartsWith a c ⊎ StartsWith c a
  either_begins [] b c d e = inr (c, refl)
  either_begins (x ∷ a) b [] d e = inl (x ∷ a, refl)
  either_begins (x ∷ a) b (y ∷ c) d e =
      let heads : x ≡ y = cc in
      let tails : a ++ b ≡ c ++ d = cc in
      ⊎_elim (λ (s : StartsWith a c). inl (s.0, λ i. heads i ∷ s.1 i)) (λ (s : StartsWith c a). inr (s.0, λ i. sym heads i ∷ s.1 i)) (either_begins a b c d tails)

module _ {E A : Type 0} where
  pub steps_of-append : (n : ℕ) (xs ys : List (StepOf E A)) → steps_of n (xs ++ ys) ≡ steps_of n xs ++ steps_of n ys
  steps_of-append n xs ys = filter-append (λ (step : StepOf E A). eqb step.pass n) xs ys

  -- a pass with a number that none below n has made no step
  pub steps_of-new : (n : ℕ) (xs : List (StepOf E A)) → PassesBelow n xs → steps_of n xs ≡ []
  steps_of-new n [] below = refl
  steps_of-new n (x ∷ xs) below = rw (ne_eqb x.pass n (λ e. let h = below.0 in omega arith)) (steps_of-new n xs below.1)

  pub steps_of-own : (n : ℕ) (event : E) (answer : A) → steps_of n (step_by n event answer ∷ []) ≡ step_by n event answer ∷ []
  steps_of-own n event answer = rw (eq-eqb n n refl) refl

  pub steps_of-other : (n m : ℕ) (event : E) (answer : A) → n ≢ m → steps_of n (step_by m event answer ∷ []) ≡ []
  steps_of-other n m event answer apart = rw (ne_eqb m n (λ e. apart (sym e))) refl

  -- where a list between two has the same steps of n
  pub steps_of-between : (n : ℕ) (a b c : List (StepOf E A)) → steps_of n ((a ++ b) ++ c) ≡ steps_of n a → steps_of n (a ++ b) ≡ steps_of n a
  steps_of-between n a b c e =
      let whole : steps_of n a ++ (steps_of n b ++ steps_of n c) ≡ steps_of n a =
      sym (append_assoc (steps_of n a) (steps_of n b) (steps_of n c)) ∙ ap (λ l. l ++ steps_of n c) (sym (steps_of-append n a b)) ∙ sym (steps_of-append n (a ++ b) c) ∙ e in
      let none : steps_of n b ≡ [] = nothing_before (steps_of n b) (steps_of n c) (nothing_added (steps_of n a) (steps_of n b ++ steps_of n c) whole) in
      steps_of-append n a b ∙ ap (λ l. steps_of n a ++ l) none ∙ append-nil (steps_of n a)

  pub passes_below-more : (n m : ℕ) → n ≤ m → (xs : List (StepOf E A)) → PassesBelow n xs → PassesBelow m xs
  passes_below-more n m h [] below = tt
  passes_below-more n m h (x ∷ xs) below = (omega arith, passes_below-more n m h xs below.1)

  pub passes_below-append : (n : ℕ) (xs ys : List (StepOf E A)) → PassesBelow n xs → PassesBelow n ys → PassesBelow n (xs ++ ys)
  passes_below-append n [] ys below more = more
  passes_below-append n (x ∷ xs) ys below more = (below.0, passes_below-append n xs ys below.1 more)

  pub are_of-append : (n : ℕ) (xs ys : List (StepOf E A)) → AreOf n xs → AreOf n ys → AreOf n (xs ++ ys)
  are_of-append n [] ys all more = more
  are_of-append n (x ∷ xs) ys all more = (all.0, are_of-append n xs ys all.1 more)

  -- steps of one pass are none of another
  pub steps_of-apart : (n m : ℕ) (xs : List (StepOf E A)) → AreOf n xs → m ≢ n → steps_of m xs ≡ []
  steps_of-apart n m [] all apart = refl
  steps_of-apart n m (x ∷ xs) all apart = rw (ne_eqb x.pass m (λ e. apart (sym e ∙ all.0))) (steps_of-apart n m xs all.1 apart)

  pub passes_below-of : (n enrolled : ℕ) (xs : List (StepOf E A)) → n < enrolled → AreOf n xs → PassesBelow enrolled xs
  passes_below-of n enrolled [] low all = tt
  passes_below-of n enrolled (x ∷ xs) low all = (subst (λ p. p < enrolled) (sym all.0) low, passes_below-of n enrolled xs low all.1)

  -- a turn behind what others added
  pub adds_turn-behind : (legal : List (StepOf E A) → Type 0) (n : ℕ) (before middle after : List (StepOf E A)) (event : E) (answer : A) → GrowsByOthers n before middle → after ≡ middle ++ step_by n event answer ∷ [] → legal after
      → AddsTurn legal n before event answer after
  adds_turn-behind legal n before middle after event answer grows ends ok = record {
    between = grows.begins.0;
    ends = ends ∙ ap (λ l. l ++ step_by n event answer ∷ []) grows.begins.1;
    own = ap (steps_of n) ends ∙ steps_of-append n middle (step_by n event answer ∷ []) ∙ (λ i. grows.own i ++ steps_of-own n event answer i);
    is_legal = ok;
  }

  -- a turn by the one pass of a state
  pub adds_turn-alone : {R : Type 0} (legal : List (StepOf E A) → Type 0) (n : ℕ) (old new : List (StepOf E A)) (event : E) (outcome : Result A R) → IfOk outcome (λ answer. new ≡ old ++ step_by n event answer ∷ []) → IfOk outcome (λ answer. legal old → legal new) → legal old
      → IfOk outcome (λ answer. AddsTurn legal n old event answer new)
  adds_turn-alone legal n old new event (Ok answer) grown keeps is_legal = record {
    between = [];
    ends = grown ∙ ap (λ l. l ++ step_by n event answer ∷ []) (sym (append-nil old));
    own = ap (steps_of n) grown ∙ steps_of-append n old (step_by n event answer ∷ []) ∙ ap (λ l. steps_of n old ++ l) (steps_of-own n event answer);
    is_legal = keeps is_legal;
  }
  adds_turn-alone legal n old new event (Err refused) grown keeps is_legal = tt
