-- A pass at its gate that may stay inside between its turns.
use Rattle.std.specs.Prelude.{◌≡◌, ◌-◌, ◌^◌, ℕ, ◌+◌, List, Option, Some, None}
use Rattle.atomic_table.specs.declared.shared.Seat.{Seat}
use Rattle.journal_core.specs.declared.step.Step.{Step as StepOf}
use Rattle.ticket_gate.specs.declared.view.Knowledge.{Knowledge}
use Rattle.ticket_gate.specs.declared.view.View.{View}
use Rattle.ticket_gate.specs.Gate.{GateFacts, PassFacts, IsAtRest}
use Rattle.ticket_gate.specs.Journal.{GrowsByOthers}
use Rattle.ticket_gate.specs.Steps.{SeatState, after_exit}
use Rattle.ticket_gate.specs.Visit.{IsHolding, journal_out}

module _ {S E A C : Type 0} (journal : S → List (StepOf E A)) where
  -- what a place knows once it has left, if it is inside with a ticket
  abbrev pub known_outside : Option ℕ → SeatState S E A C → Knowledge E A C
  known_outside None me = me.0.own
  known_outside (Some t) me = after_exit me.0.own (t + 1) (journal_out journal me.1)

  -- what contracts see of a pass: whether it is inside makes no difference
  abbrev pub held_facts : ℕ → Option ℕ → Seat (Option S) (View E A C) → PassFacts E A C
  held_facts n ticket seat =
      record { gate = seat.table_id; number = n; known = known_outside ticket seat.me }

  module _ (setting : S → C) (legal : C → List (StepOf E A) → Type 0) where
    -- a place outside, or inside with a ticket
    abbrev pub Stands : C → ℕ → Option ℕ → Seat (Option S) (View E A C) → Type 0
    Stands c n None seat = IsAtRest seat
    Stands c n (Some t) seat = IsHolding journal setting legal c n t seat

    -- the pass n of this gate, outside or inside
    pub record IsSeated (gate : GateFacts C) (n : ℕ) (ticket : Option ℕ)
        (seat : Seat (Option S) (View E A C)) : Type 0 where
      pub gate_is : seat.table_id ≡ gate.id
      pub setting_is : seat.me.0.own.setting ≡ Some gate.setting
      pub number_is : seat.me.0.own.number ≡ Some n
      pub stands : Stands gate.setting n ticket seat

    -- The pass n is inside, where others may have added steps before; or all tickets are drawn, and
    -- it has seen nothing new.
    abbrev pub ComesIn : GateFacts C → ℕ → Option ℕ → Seat (Option S) (View E A C)
        → Seat (Option S) (View E A C) → Option ℕ → Type 0
    ComesIn gate n ticket old new None =
        IsSeated gate n None new
        × (new.me.0.own.seen ≡ (known_outside ticket old.me).seen)
        × (new.me.0.own.last_drawn ≡ 2 ^ 64 - 1)
    ComesIn gate n ticket old new (Some t) =
        IsSeated gate n (Some t) new
        × GrowsByOthers n (known_outside ticket old.me).seen (journal_out journal new.me.1)
