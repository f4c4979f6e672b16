-- The passes of a generation's workers, and their places.
use Rattle.std.specs.Prelude.{◌≡◌, ◌<◌, ◌==◌, if◌then◌else◌, ℕ, List, [], ◌∷◌, Option, Some, None, map}
use Rattle.std.specs.List.{range_with_len}
use Rattle.ticket_gate.specs.declared.view.Knowledge.{Knowledge}
use Rattle.ticket_gate.specs.declared.view.View.{View}
use Rattle.ticket_gate.specs.PlainRule.{IsAt, PlainRule}
use Rattle.atomic_table.specs.Table.{State}
use Rattle.proxy_history.specs.History.{History}
use Rattle.proxy_history.specs.Proxy.{Proxy}
use Rattle.proxy_history.specs.declared.answer.Answer.{Answer}
use Rattle.proxy_history.specs.declared.event.Event.{Event}
use Rattle.proxy_core.specs.Recorded.{IsLegalJournal, Origin, journal_of, made_with}
use Rattle.proxy_engines.specs.Turns.{own_steps}
use Rattle.proxy_notices.specs.declared.place.Place.{Place}
use Rattle.proxy_connections.specs.Places.{HasNoHostStep, KeepsToPlace, OnePassTellsAll}

-- a worker's place, and the number of its pass
pub record Assigned : Type 0 where
  pub place : Place
  pub pass : ℕ

-- the first n places among these many workers
abbrev pub first_places : ℕ → ℕ → List Place
first_places workers n = map (λ index. record { index = index; workers = workers }) (range_with_len 0 n)

-- these have the first n places, each one of them
abbrev pub HaveFirstPlaces : ℕ → ℕ → List Assigned → Type 0
HaveFirstPlaces workers n assigned = map (λ (a : Assigned). a.place) assigned ≡ first_places workers n

-- these have all places, each one of them
abbrev pub HaveAllPlaces : ℕ → List Assigned → Type 0
HaveAllPlaces workers assigned = HaveFirstPlaces workers workers assigned

-- the place of the worker that has this pass, if one has
abbrev pub place_with : ℕ → List Assigned → Option Place
place_with pass [] = None
place_with pass (a ∷ rest) = if a.pass == pass then Some a.place else place_with pass rest

-- of hosts these steps are of this place's alone, and of none without a place
abbrev pub KeepsWithin : Option Place → History → Type 0
KeepsWithin (Some place) H = KeepsToPlace place H
KeepsWithin None H = HasNoHostStep H

-- LAWS

-- what a gate holds of its words, its state and the views of its places
abbrev pub GateState : Type 0
GateState = State (Option Proxy) (View Event Answer Origin)

-- Each number that a gate gave out is a pass's of which a view tells, and of hosts a pass made steps of its place's alone.
pub record KeepWithin (assigned : List Assigned) (enrolled : ℕ) (s : GateState) : Type 0 where
  pub shown : (n : ℕ) → n < enrolled → (j : ℕ) × (k : Knowledge Event Answer Origin) × IsAt s j k × (k.number ≡ Some n)
  pub kept : (j n : ℕ) (k : Knowledge Event Answer Origin) → IsAt s j k → k.number ≡ Some n
      → KeepsWithin (place_with n assigned) (own_steps n k.seen)

-- Between any two steps at a gate whose passes keep within their places, of which each worker has one, each host has one pass, whose
-- steps tell all of it.
abbrev pub HostsHaveTheirWorkers : Type 0
HostsHaveTheirWorkers = (workers : ℕ) (assigned : List Assigned) → HaveAllPlaces workers assigned
    → (made : Origin) (s : GateState) (rule : PlainRule journal_of made_with IsLegalJournal made s)
    → KeepWithin assigned rule.enrolled s → OnePassTellsAll rule.log
