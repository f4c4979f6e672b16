-- What contracts see of a gate and of the places of its threads.
use Rattle.std.specs.Prelude.{◌≡◌, ℕ, [], false, Option, Some, None}
use Rattle.atomic_table.specs.Seated.{TableId}
use Rattle.atomic_table.specs.declared.shared.Seat.{Seat}
use Rattle.ticket_gate.specs.declared.view.Knowledge.{Knowledge}
use Rattle.ticket_gate.specs.declared.view.View.{View}
use Rattle.ticket_gate.specs.Rule.{view_of}

-- which gate it is, and the setting of its state
pub record GateFacts (C : Type 0) : Type 0 where
  pub id : TableId
  pub setting : C

-- a place without a number: its gate, and what it knows
pub record SpareFacts (E A C : Type 0) : Type 0 where
  pub gate : TableId
  pub known : Knowledge E A C

-- a place with a number
pub record PassFacts (E A C : Type 0) : Type 0 where
  pub gate : TableId
  pub number : ℕ
  pub known : Knowledge E A C

-- three words and one slot
abbrev pub IsGateSized : TableId → Type 0
IsGateSized t = (t.words ≡ 3) × (t.slots ≡ 1)

module _ {E A C : Type 0} where
  -- the spare place is one of this gate
  abbrev pub IsSpareOf : GateFacts C → SpareFacts E A C → Type 0
  IsSpareOf gate spare = (spare.gate ≡ gate.id) × (spare.known.setting ≡ Some gate.setting)

  -- the pass is one of this gate
  abbrev pub IsPassOf : GateFacts C → PassFacts E A C → Type 0
  IsPassOf gate pass = (pass.gate ≡ gate.id) × (pass.known.setting ≡ Some gate.setting)

  -- it is the same pass: its gate, its number and its setting are as before
  abbrev pub IsSamePass : PassFacts E A C → PassFacts E A C → Type 0
  IsSamePass before after =
      (after.gate ≡ before.gate) × (after.number ≡ before.number)
      × (after.known.setting ≡ before.known.setting)

module _ {S E A C : Type 0} where
  -- what contracts see of a place without a number
  abbrev pub spare_facts : Seat (Option S) (View E A C) → SpareFacts E A C
  spare_facts seat = record { gate = seat.table_id; known = seat.me.0.own }

  -- what contracts see of a place with a number
  abbrev pub pass_facts : ℕ → Seat (Option S) (View E A C) → PassFacts E A C
  pass_facts number seat = record { gate = seat.table_id; number = number; known = seat.me.0.own }

  -- between calls a place has no slot and no ticket, and is not inside
  pub record IsAtRest (seat : Seat (Option S) (View E A C)) : Type 0 where
    pub alone : seat.me ≡ (view_of seat.me.0.own, [])
    pub no_ticket : seat.me.0.own.ticket ≡ None
    pub outside : seat.me.0.own.inside ≡ false

  -- a place that has no number yet has seen nothing
  abbrev pub HasNoNumber : Seat (Option S) (View E A C) → Type 0
  HasNoNumber seat = (seat.me.0.own.number ≡ None) × (seat.me.0.own.seen ≡ [])
