-- A place on its way through the gate: at rest, with a ticket, inside, and outside again.
use Rattle.std.specs.Prelude.{◌≡◌, ℕ, ◌+◌, ◌<◌, ◌^◌, List, [], ◌∷◌, ◌++◌, false, true, Option, Some, None, Result, MatchResult}
use Rattle.atomic_table.specs.Seated.{TableId}
use Rattle.atomic_table.specs.declared.shared.Seat.{Seat}
use Rattle.journal_core.specs.declared.step.Step.{Step as StepOf}
use Rattle.journal_core.specs.Journal.{step_by}
use Rattle.ticket_gate.specs.declared.view.Knowledge.{Knowledge}
use Rattle.ticket_gate.specs.declared.view.View.{View}
use Rattle.ticket_gate.specs.Rule.{view_of}
use Rattle.ticket_gate.specs.Gate.{IsAtRest}
use Rattle.ticket_gate.specs.Journal.{AreOf}
use Rattle.ticket_gate.specs.Steps.{GoesOnFrom}

-- looks and draws leave the number, what was seen and the setting as they were
pub record KeepsSeen {E A C : Type 0} (before after : Knowledge E A C) : Type 0 where
  pub number : after.number ≡ before.number
  pub seen : after.seen ≡ before.seen
  pub setting : after.setting ≡ before.setting

module _ {S E A : Type 0} (journal : S → List (StepOf E A)) where
  -- the journal of the state in a slot
  abbrev pub journal_in : Option S → List (StepOf E A)
  journal_in None = []
  journal_in (Some state) = journal state

  -- the journal of the state that is out with a place
  abbrev pub journal_out : List (ℕ × Option S) → List (StepOf E A)
  journal_out [] = []
  journal_out (slot ∷ slots) = journal_in slot.1

module _ {S E A C : Type 0} where
  -- a place at this gate, at rest and with a number
  abbrev pub MayEnter : TableId → Seat (Option S) (View E A C) → Type 0
  MayEnter id seat =
      (seat.table_id ≡ id) × IsAtRest seat × ((n : ℕ) × (seat.me.0.own.number ≡ Some n))

  -- a place that waits with the ticket t
  pub record HoldsTicket (before : Knowledge E A C) (t : ℕ)
      (seat : Seat (Option S) (View E A C)) : Type 0 where
    pub alone : seat.me ≡ (view_of seat.me.0.own, [])
    pub ticket : seat.me.0.own.ticket ≡ Some t
    pub outside : seat.me.0.own.inside ≡ false
    pub keeps : KeepsSeen before seat.me.0.own

  module _ (journal : S → List (StepOf E A)) (setting : S → C)
      (legal : C → List (StepOf E A) → Type 0) where
    -- The pass n is inside with the ticket t, and the state that is out with it may have more steps
    -- than the place saw when it came in: steps of this pass.
    pub record IsHolding (c : C) (n t : ℕ) (seat : Seat (Option S) (View E A C)) : Type 0 where
      pub state : S
      pub me : seat.me ≡ (view_of seat.me.0.own, (0, Some state) ∷ [])
      pub ticket : seat.me.0.own.ticket ≡ Some t
      pub inside : seat.me.0.own.inside ≡ true
      pub number : seat.me.0.own.number ≡ Some n
      pub low : t + 1 < 2 ^ 64
      pub has_setting : setting state ≡ c
      pub is_legal : legal c (journal state)
      pub more : List (StepOf E A)
      pub grown : journal state ≡ seat.me.0.own.seen ++ more
      pub own : AreOf n more

    -- a place inside with the ticket t, and a state that goes on from what the place had seen
    -- before
    pub record IsInside (before : Knowledge E A C) (t : ℕ)
        (seat : Seat (Option S) (View E A C)) : Type 0 where
      pub state : S
      pub me : seat.me ≡ (view_of seat.me.0.own, (0, Some state) ∷ [])
      pub ticket : seat.me.0.own.ticket ≡ Some t
      pub inside : seat.me.0.own.inside ≡ true
      pub seen : seat.me.0.own.seen ≡ journal state
      pub number : seat.me.0.own.number ≡ before.number
      pub has_setting : seat.me.0.own.setting ≡ before.setting
      pub goes_on : GoesOnFrom journal setting legal before state

  module _ {R : Type 0} (legal : C → List (StepOf E A) → Type 0)
      (cause : C → R → E → List (StepOf E A) → Type 0) where
    -- A place that was inside has made its turn and is at rest again: what it had seen inside has
    -- grown by its step and is legal, or is as it was and the cause holds.
    pub record HasMadeTurn (inside : Knowledge E A C) (n : ℕ) (event : E)
        (outcome : Result A (R × E)) (seat : Seat (Option S) (View E A C)) : Type 0 where
      pub at_rest : IsAtRest seat
      pub number : seat.me.0.own.number ≡ inside.number
      pub has_setting : seat.me.0.own.setting ≡ inside.setting
      pub done : MatchResult outcome
          (λ answer. (seat.me.0.own.seen ≡ inside.seen ++ step_by n event answer ∷ [])
          × ((c : C) → inside.setting ≡ Some c → legal c seat.me.0.own.seen))
          (λ refused. (seat.me.0.own.seen ≡ inside.seen) × (refused.1 ≡ event)
          × ((c : C) → inside.setting ≡ Some c → cause c refused.0 event seat.me.0.own.seen))

-- A turn was made inside: the state's journal has grown by its step, or is as it was and the cause
-- holds.
abbrev pub HasTurned : {E A C R : Type 0} → (C → R → E → List (StepOf E A) → Type 0)
    → List (StepOf E A) → List (StepOf E A) → C → ℕ → E → Result A (R × E) → Type 0
HasTurned cause before after c n event outcome =
    MatchResult outcome
    (λ answer. after ≡ before ++ step_by n event answer ∷ [])
    (λ refused. (after ≡ before) × (refused.1 ≡ event) × cause c refused.0 event before)
