-- What each atomic step tells the seat that makes it: a relation between the step, the seat before,
-- the number found (at a store, the number stored) and the seat after.
use Rattle.std.specs.Prelude.{◌≡◌, ◌≢◌, ℕ, ◌+◌, ◌<◌, ◌≤◌, List, [], ◌∷◌, true, false, Option, Some, None}
use Rattle.atomic_table.specs.Table.{Me, Step}
use Rattle.journal_core.specs.declared.step.Step.{Step as StepOf}
use Rattle.ticket_gate.specs.declared.view.Knowledge.{Knowledge}
use Rattle.ticket_gate.specs.declared.view.View.{View}
use Rattle.ticket_gate.specs.Journal.{steps_of, StartsWith, Meets}
use Rattle.ticket_gate.specs.Rule.{view_of, spent_view}

module _ {E A C : Type 0} where
  -- the view with another knowledge of the seat's own
  abbrev pub with_own : View E A C → Knowledge E A C → View E A C
  with_own v k = record { own = k; other = v.other }

  -- the view of a seat that holds two passes
  abbrev pub pair_of : View E A C → View E A C → View E A C
  pair_of v w = record { own = v.own; other = Some w.own }

  -- what the first of two joined seats knows
  abbrev pub first_of : View E A C → View E A C
  first_of v = view_of v.own

  -- what a seat knows, or nothing
  abbrev pub view_or_spent : Option (Knowledge E A C) → View E A C
  view_or_spent (Some k) = view_of k
  view_or_spent None = spent_view

  -- what the second of two joined seats knows
  abbrev pub second_of : View E A C → View E A C
  second_of v = view_or_spent v.other

  -- after a look at `serving`
  abbrev pub after_look : Knowledge E A C → ℕ → Knowledge E A C
  after_look k n = record k { last_served = n; looks = k.looks + 1 }

  -- inside with the ticket t, and the whole journal seen
  abbrev pub after_entry : Knowledge E A C → ℕ → List (StepOf E A) → Knowledge E A C
  after_entry k t journal = record k { ticket = Some t; inside = true; seen = journal }

  -- outside again, with no ticket, after the number n was stored in `serving`
  abbrev pub after_exit : Knowledge E A C → ℕ → List (StepOf E A) → Knowledge E A C
  after_exit k n journal =
      record k { last_served = n; ticket = None; inside = false; seen = journal }

-- a seat: its view, and the slots that are out with it
abbrev pub SeatState : Type 0 → Type 0 → Type 0 → Type 0 → Type 0
SeatState S E A C = Me (Option S) (View E A C)

module _ {S E A C : Type 0} where
  -- the count of passes is read
  abbrev pub ReadsEnrolled : Step (Option S) → SeatState S E A C → ℕ → SeatState S E A C → Type 0
  ReadsEnrolled step me n me' =
      (me' ≡ (with_own me.0 (record me.0.own { last_enrolled = n }), me.1)) × (n ≤ 256)

  -- a compare-exchange that finds the number that it expects takes it for the pass
  abbrev pub TakesNumber : Step (Option S) → SeatState S E A C → ℕ → SeatState S E A C → Type 0
  TakesNumber step me n me' =
      (n ≡ step.first
      → me' ≡ (with_own me.0 (record me.0.own { number = Some step.first; seen = [] }), me.1))
      × (n ≢ step.first → me' ≡ me)

  -- the count of tickets is read
  abbrev pub ReadsDrawn : Step (Option S) → SeatState S E A C → ℕ → SeatState S E A C → Type 0
  ReadsDrawn step me n me' = me' ≡ (with_own me.0 (record me.0.own { last_drawn = n }), me.1)

  -- a ticket is drawn
  abbrev pub DrawsTicket : Step (Option S) → SeatState S E A C → ℕ → SeatState S E A C → Type 0
  DrawsTicket step me n me' =
      (n ≡ step.first → me' ≡ (with_own me.0 (record me.0.own { ticket = Some step.first }), me.1))
      × (n ≢ step.first → me' ≡ me)

  module _ (journal : S → List (StepOf E A)) (setting : S → C)
      (legal : C → List (StepOf E A) → Type 0) where
    -- the state found inside: it has the setting, its journal is legal, begins with what the place
    -- has seen, and has no further step of its number
    pub record GoesOnFrom (k : Knowledge E A C) (x : S) : Type 0 where
      pub has_setting : (c : C) → k.setting ≡ Some c → setting x ≡ c
      pub is_legal : (c : C) → k.setting ≡ Some c → legal c (journal x)
      pub begins : StartsWith (journal x) k.seen
      pub own : (n : ℕ) → k.number ≡ Some n → steps_of n (journal x) ≡ steps_of n k.seen

    -- a look that finds the seat's own ticket takes it inside, and the slot is out with it
    abbrev pub LooksAtServing : Step (Option S) → SeatState S E A C → ℕ → SeatState S E A C → Type 0
    LooksAtServing step me n me' =
        (me.0.own.ticket ≡ Some n
        → (x : S)
        × (me' ≡ (
          with_own me.0 (record (after_look me.0.own n) { inside = true; seen = journal x }),
          (0, Some x) ∷ me.1,
        ))
        × GoesOnFrom me.0.own x)
        × (me.0.own.ticket ≢ Some n → me' ≡ (with_own me.0 (after_look me.0.own n), me.1))

    -- a ticket is drawn and entered at once, or more tickets were drawn than served
    abbrev pub EntersAtOnce : Step (Option S) → SeatState S E A C → ℕ → SeatState S E A C → Type 0
    EntersAtOnce step me n me' =
        (n ≡ step.first
        → (x : S)
        × (me' ≡ (with_own me.0 (after_entry me.0.own step.first (journal x)), (0, Some x) ∷ me.1))
        × GoesOnFrom me.0.own x)
        × (n ≢ step.first
        → (step.first < n) × (me' ≡ (with_own me.0 (record me.0.own { last_drawn = n }), me.1)))

  -- the state goes home with its journal, and the next ticket is served
  abbrev pub ServesNext : (S → List (StepOf E A)) → Step (Option S) → SeatState S E A C → ℕ
      → SeatState S E A C → Type 0
  ServesNext journal step me n me' =
      (x : S) (rest : List (ℕ × Option S)) → me.1 ≡ (0, Some x) ∷ rest
      → me' ≡ (with_own me.0 (after_exit me.0.own step.first (journal x)), rest)

  -- two passes in one seat are compared
  abbrev pub ComparesPasses : (C → List (StepOf E A) → Type 0) → Step (Option S) → SeatState S E A C
      → ℕ → SeatState S E A C → Type 0
  ComparesPasses legal step me n me' =
      (me' ≡ (with_own me.0 (after_look me.0.own n), me.1))
      × ((other : Knowledge E A C) (c : C) (k l : ℕ) → me.0.other ≡ Some other
      → me.0.own.setting ≡ Some c → me.0.own.number ≡ Some k → other.number ≡ Some l
      → Meets (legal c) k me.0.own.seen l other.seen)
