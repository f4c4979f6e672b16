-- Why a gate refused, and what is known then.
use Rattle.std.specs.Prelude.{◌≡◌, ◌<◌, ◌-◌, ◌^◌, ◌⊎◌, ℕ, List, Option, Some, None}
use Rattle.journal_core.specs.declared.step.Step.{Step as StepOf}
use Rattle.ticket_gate.specs.declared.view.Knowledge.{Knowledge}
use Rattle.ticket_gate.specs.declared.refusal.GateRefusal.{GateRefusal}
use Rattle.ticket_gate.specs.declared.refusal.GateRefusal.TheVariants.{Crowded, NoMemory}
use Rattle.ticket_gate.specs.declared.refusal.TurnRefusal.{TurnRefusal}
use Rattle.ticket_gate.specs.declared.refusal.TurnRefusal.TheVariants.{Busy, Spent, State}
use Rattle.ticket_gate.specs.Journal.{GrowsByOthers}

-- the number of a refusal
abbrev pub gate_number : GateRefusal → ℕ
gate_number Crowded = 1203
gate_number NoMemory = 1204

-- the number of a turn's refusal; one by the state has none of the gate's
abbrev pub turn_number : {R E : Type 0} → TurnRefusal R E → Option ℕ
turn_number (Busy served drawn event) = Some 1201
turn_number (Spent event) = Some 1202
turn_number (State cause event) = None

module _ {E A C : Type 0} where
  -- The place looked in this call, and more tickets were drawn than served. It has seen nothing
  -- new.
  abbrev pub FoundBusy : ℕ → ℕ → Knowledge E A C → Knowledge E A C → Type 0
  FoundBusy served drawn before after =
      (after.seen ≡ before.seen) × (served ≡ after.last_served) × (drawn ≡ after.last_drawn)
      × (served < drawn) × (before.looks < after.looks)

  -- The place found the greatest `u64` in `serving` or in `drawn`, so that `drawn` has it: no
  -- ticket is left. It has seen nothing new.
  abbrev pub FoundSpent : Knowledge E A C → Knowledge E A C → Type 0
  FoundSpent before after =
      (after.seen ≡ before.seen)
      × ((after.last_served ≡ 2 ^ 64 - 1) ⊎ (after.last_drawn ≡ 2 ^ 64 - 1))

-- The state refused the turn, for a cause that holds over what is seen now. No step of the pass n
-- was added.
abbrev pub RefusedByState : {E A R : Type 0} → (R → E → List (StepOf E A) → Type 0) → ℕ
    → List (StepOf E A) → E → R → List (StepOf E A) → Type 0
RefusedByState cause n before event why after = GrowsByOthers n before after × cause why event after

module _ {E A C R : Type 0} (cause : R → E → List (StepOf E A) → Type 0) (n : ℕ)
    (before : Knowledge E A C) (event : E) (after : Knowledge E A C) where
  -- a turn that doesn't wait was refused, and the event comes back
  abbrev pub RefusesAtOnce : TurnRefusal R E → Type 0
  RefusesAtOnce (Busy served drawn back) = (back ≡ event) × FoundBusy served drawn before after
  RefusesAtOnce (Spent back) = (back ≡ event) × FoundSpent before after
  RefusesAtOnce (State why back) =
      (back ≡ event) × RefusedByState cause n before.seen event why after.seen

  -- A turn that waits was refused, and the event comes back. It is never refused for being busy.
  abbrev pub RefusesAfterWaiting : TurnRefusal R E → Type 0
  RefusesAfterWaiting (Busy served drawn back) = ⊥
  RefusesAfterWaiting (Spent back) =
      (back ≡ event) × (after.seen ≡ before.seen) × (after.last_drawn ≡ 2 ^ 64 - 1)
  RefusesAfterWaiting (State why back) =
      (back ≡ event) × RefusedByState cause n before.seen event why after.seen
