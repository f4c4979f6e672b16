-- Journals: lists of steps. A step has the number of the pass that made it, the event and the
-- answer.
use Rattle.std.specs.Prelude.{◌≡◌, ◌≢◌, ◌⊎◌, ℕ, ◌<◌, ◌==◌, List, [], ◌∷◌, ◌++◌, filter}
use Rattle.journal_core.specs.declared.step.Step.{Step as StepOf}
use Rattle.journal_core.specs.Journal.{step_by}

-- the steps of the pass n, in their order
abbrev pub steps_of : {E A : Type 0} → ℕ → List (StepOf E A) → List (StepOf E A)
steps_of n journal = filter (λ step. step.pass == n) journal

-- the journal begins with what was seen
abbrev pub StartsWith : {X : Type 0} → List X → List X → Type 0
StartsWith {X} journal seen = (rest : List X) × (journal ≡ seen ++ rest)

-- each step was made by a pass with a number below n
abbrev pub PassesBelow : {E A : Type 0} → ℕ → List (StepOf E A) → Type 0
PassesBelow n [] = Unit {0}
PassesBelow n (step ∷ steps) = (step.pass < n) × PassesBelow n steps

-- each step was made by the pass n
abbrev pub AreOf : {E A : Type 0} → ℕ → List (StepOf E A) → Type 0
AreOf n [] = Unit {0}
AreOf n (step ∷ steps) = (step.pass ≡ n) × AreOf n steps

-- One turn of the pass n was answered: what it sees now is legal, begins with what it saw before,
-- and ends with its step. Of its own steps that is the only new one.
pub record AddsTurn {E A : Type 0} (legal : List (StepOf E A) → Type 0) (n : ℕ)
    (before : List (StepOf E A)) (event : E) (answer : A) (after : List (StepOf E A)) : Type 0 where
  pub between : List (StepOf E A)
  pub ends : after ≡ (before ++ between) ++ step_by n event answer ∷ []
  pub own : steps_of n after ≡ steps_of n before ++ step_by n event answer ∷ []
  pub is_legal : legal after

-- What is seen now begins with what was seen before, and has no further step of the pass n.
pub record GrowsByOthers {E A : Type 0} (n : ℕ) (before after : List (StepOf E A)) : Type 0 where
  pub begins : StartsWith after before
  pub own : steps_of n after ≡ steps_of n before

-- Two passes compared: their numbers differ, and of the journals that they have seen one begins
-- with the other. The longer one is legal, and holds of each pass the steps that the pass has seen.
pub record Meets {E A : Type 0} (legal : List (StepOf E A) → Type 0) (n : ℕ)
    (first : List (StepOf E A)) (m : ℕ) (second : List (StepOf E A)) : Type 0 where
  pub numbers_differ : n ≢ m
  pub longer : List (StepOf E A)
  pub one_begins : ((longer ≡ first) × StartsWith longer second)
      ⊎ ((longer ≡ second) × StartsWith longer first)
  pub is_legal : legal longer
  pub of_first : steps_of n longer ≡ steps_of n first
  pub of_second : steps_of m longer ≡ steps_of m second

-- A state that a gate gave at its end: it has the gate's setting, its journal is legal, begins with
-- what the closing pass has seen, and has no further step of it.
pub record Closes {S E A C : Type 0} (journal : S → List (StepOf E A)) (setting : S → C)
    (legal : C → List (StepOf E A) → Type 0) (c : C) (n : ℕ) (seen : List (StepOf E A))
    (state : S) : Type 0 where
  pub has_setting : setting state ≡ c
  pub is_legal : legal c (journal state)
  pub grows : GrowsByOthers n seen (journal state)
