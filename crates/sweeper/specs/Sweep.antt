-- A sweep that was not made, and why.
use Rattle.std.specs.Prelude.{◌≡◌, ℕ, List, Option, None, Some}
use Rattle.ticket_gate.specs.Refusal.{RefusedByState}
use Rattle.proxy_history.specs.History.{Step}
use Rattle.proxy_history.specs.declared.event.Event.{Event}
use Rattle.proxy_history.specs.declared.event.Event.TheVariants.{Swept}
use Rattle.proxy_history.specs.declared.refusal.Refusal.{Refusal}
use Rattle.proxy_history.specs.declared.refusal.Refusal.TheVariants as refusal
use Rattle.sweeper.specs.declared.sweep.SweepRefusal.{SweepRefusal}
use Rattle.sweeper.specs.declared.sweep.SweepRefusal.TheVariants.{NoMemory, JournalFull, Spent}

-- the number of a refusal
abbrev pub number_of : SweepRefusal → ℕ
number_of NoMemory = 1001
number_of JournalFull = 1002
number_of Spent = 1202

module _ (cause : Refusal → Event → List Step → Type 0) (spent : Type 0) (pass : ℕ) (before : List Step) (moment : ℕ) (after : List Step) where
  -- A sweep of the pass at this moment was refused, and no step of it was added: by the core, for a cause that holds over what is seen now, or for want of tickets.
  abbrev pub RefusesSweep : SweepRefusal → Type 0
  RefusesSweep NoMemory = RefusedByState cause pass before (Swept moment) refusal.NoMemory after
  RefusesSweep JournalFull = RefusedByState cause pass before (Swept moment) refusal.JournalFull after
  RefusesSweep Spent = (after ≡ before) × spent

  -- The turn of that sweep was refused, and no step of the pass was added: by the core, for this cause, or for want of tickets, where there is none.
  abbrev pub RefusesFor : Option Refusal → Type 0
  RefusesFor None = (after ≡ before) × spent
  RefusesFor (Some why) = RefusedByState cause pass before (Swept moment) why after
