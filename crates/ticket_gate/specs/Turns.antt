-- What a worker sees of its turns.
use Rattle.std.specs.Prelude.{◌≡◌, ℕ, List}
use Rattle.journal_core.specs.declared.step.Step.{Step as StepOf}
use Rattle.ticket_gate.specs.declared.refusal.TurnRefusal.{TurnRefusal}
use Rattle.ticket_gate.specs.declared.refusal.TurnRefusal.TheVariants.{Busy, Spent, State}
use Rattle.ticket_gate.specs.Journal.{steps_of}
use Rattle.ticket_gate.specs.Refusal.{RefusedByState}
use Rattle.ticket_gate.specs.Gate.{GateFacts, PassFacts}

-- what contracts see of the turns of a pass
pub record TurnFacts (Home Setting Event Answer : Type 0) : Type 0 where
  -- the place of the turns
  pub home : Home
  -- the number of the pass
  pub pass : ℕ
  -- what the state was made with
  pub setting : Setting
  -- the journal as far as the pass has seen it
  pub seen : List (StepOf Event Answer)

-- the place, the pass and the setting are as before
pub record KeepsPlace {Home Setting Event Answer : Type 0}
    (before after : TurnFacts Home Setting Event Answer) : Type 0 where
  pub home : after.home ≡ before.home
  pub pass : after.pass ≡ before.pass
  pub setting : after.setting ≡ before.setting

module _ {E A R : Type 0} (cause : R → E → List (StepOf E A) → Type 0) (spent : Type 0) (n : ℕ)
    (before : List (StepOf E A)) (event : E) (after : List (StepOf E A)) where
  -- A turn of the pass n was refused, and the event comes back. It is never refused for being busy,
  -- and for want of tickets only where `spent` holds.
  abbrev pub RefusesTurn : TurnRefusal R E → Type 0
  RefusesTurn (Busy served drawn back) = ⊥
  RefusesTurn (Spent back) = (back ≡ event) × (after ≡ before) × spent
  RefusesTurn (State why back) = (back ≡ event) × RefusedByState cause n before event why after

-- a pass and its gate
pub record SeatedFacts (E A C : Type 0) : Type 0 where
  pub gate : GateFacts C
  pub pass : PassFacts E A C

-- a pass at its gate
abbrev pub seated_at : {E A C : Type 0} → GateFacts C → PassFacts E A C → SeatedFacts E A C
seated_at gate pass = record { gate = gate; pass = pass }

-- a state and the one pass that uses it
pub record AloneFacts (S : Type 0) : Type 0 where
  pub state : S
  pub pass : ℕ

-- a state with the number that its turns are under
abbrev pub alone_with : {S : Type 0} → S → ℕ → AloneFacts S
alone_with state pass = record { state = state; pass = pass }

-- the journal is legal, and all its steps are of this pass
pub record IsUsedBy {S E A C : Type 0} (journal : S → List (StepOf E A)) (setting : S → C)
    (legal : C → List (StepOf E A) → Type 0) (state : S) (n : ℕ) : Type 0 where
  pub is_legal : legal (setting state) (journal state)
  pub own : steps_of n (journal state) ≡ journal state
