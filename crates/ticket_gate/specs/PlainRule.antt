-- The rule of the gate in plain sentences, over its words, its slot and the views of all seats.
-- `rule_in_plain_sentences` proves them from `GateRule`.
use Rattle.std.specs.Prelude.{◌≡◌, ◌≢◌, ◌⊎◌, ◌↔◌, ℕ, ◌<◌, ◌≤◌, List, [], ◌∷◌, true, false, Option, Some, None}
use mathlib.Core.Option as maybe
use lib.ListN.{get_elem?}
use Rattle.atomic_table.specs.Table.{State}
use Rattle.journal_core.specs.declared.step.Step.{Step as StepOf}
use Rattle.ticket_gate.specs.declared.view.Knowledge.{Knowledge}
use Rattle.ticket_gate.specs.declared.view.View.{View}
use Rattle.ticket_gate.specs.Journal.{steps_of, StartsWith, PassesBelow}

module _ {S E A C : Type 0} (s : State (Option S) (View E A C)) where
  -- the place k is at the seat j: as the seat's own, or as the second of two passes that meet there
  abbrev pub IsAt : ℕ → Knowledge E A C → Type 0
  IsAt j k =
      (v : View E A C) × (get_elem? s.views j ≡ maybe.some v) × ((v.own ≡ k) ⊎ (v.other ≡ Some k))

  -- the state is at home in the slot
  abbrev pub HasState : S → Type 0
  HasState x = s.homes ≡ maybe.some (Some x) ∷ []

  -- the slot is out
  abbrev pub IsOut : Type 0
  IsOut = s.homes ≡ maybe.none ∷ []

module _ {S E A C : Type 0} (s : State (Option S) (View E A C)) (drawn serving enrolled : ℕ) where
  -- No ticket is served that was not drawn, at most 256 passes are enrolled, and no place has seen
  -- more.
  pub record WordsAreBehind : Type 0 where
    pub served : serving ≤ drawn
    pub few : enrolled ≤ 256
    pub last_served : (j : ℕ) (k : Knowledge E A C) → IsAt s j k → k.last_served ≤ serving
    pub last_drawn : (j : ℕ) (k : Knowledge E A C) → IsAt s j k → k.last_drawn ≤ drawn
    pub last_enrolled : (j : ℕ) (k : Knowledge E A C) → IsAt s j k → k.last_enrolled ≤ enrolled

  -- Each ticket held was drawn and has not been served before, and no two seats hold the same. Of
  -- two passes that meet the second has none.
  pub record TicketsDiffer : Type 0 where
    pub waiting : (j t : ℕ) (k : Knowledge E A C) → IsAt s j k → k.ticket ≡ Some t
        → (serving ≤ t) × (t < drawn)
    pub differ : (i j t : ℕ) (k l : Knowledge E A C) → IsAt s i k → IsAt s j l → k.ticket ≡ Some t
        → l.ticket ≡ Some t → i ≡ j
    pub second : (j : ℕ) (v : View E A C) (l : Knowledge E A C) → get_elem? s.views j ≡ maybe.some v
        → v.other ≡ Some l → l.ticket ≡ None

  -- At most one place is inside, and only with the ticket that is served. The slot is out exactly
  -- if a place is inside, and has a state exactly if none is.
  pub record OneIsInside : Type 0 where
    pub one : (i j : ℕ) (k l : Knowledge E A C) → IsAt s i k → IsAt s j l → k.inside ≡ true
        → l.inside ≡ true → i ≡ j
    pub served : (j : ℕ) (k : Knowledge E A C) → IsAt s j k → k.inside ≡ true
        → k.ticket ≡ Some serving
    pub out : ((j : ℕ) × (k : Knowledge E A C) × IsAt s j k × (k.inside ≡ true)) ↔ IsOut s
    pub home : ((j : ℕ) (k : Knowledge E A C) → IsAt s j k → k.inside ≡ false)
        ↔ ((x : S) × HasState s x)

  -- Numbers were given out and differ. A place without a number has no ticket.
  pub record NumbersDiffer : Type 0 where
    pub given_out : (j n : ℕ) (k : Knowledge E A C) → IsAt s j k → k.number ≡ Some n → n < enrolled
    pub differ : (i j n : ℕ) (k l : Knowledge E A C) → IsAt s i k → IsAt s j l → k.number ≡ Some n
        → l.number ≡ Some n → i ≡ j
    pub differ_in_one : (j n m : ℕ) (v : View E A C) (l : Knowledge E A C)
        → get_elem? s.views j ≡ maybe.some v → v.other ≡ Some l → v.own.number ≡ Some n
        → l.number ≡ Some m → n ≢ m
    pub spare : (j : ℕ) (k : Knowledge E A C) → IsAt s j k → k.number ≡ None → k.ticket ≡ None

-- There is one legal journal: that of the state at home or, while a place is inside, what this
-- place had seen when it went in. Its passes have numbers given out, what each place has seen is a
-- beginning of it, and it has no step of a pass that the pass has not seen. The state and all
-- places have one setting.
pub record OneJournal {S E A C : Type 0} (journal : S → List (StepOf E A)) (setting : S → C)
    (legal : C → List (StepOf E A) → Type 0) (c : C) (s : State (Option S) (View E A C))
    (enrolled : ℕ) (log : List (StepOf E A)) : Type 0 where
  pub at_home : (x : S) → HasState s x → (journal x ≡ log) × (setting x ≡ c)
  pub inside : (j : ℕ) (k : Knowledge E A C) → IsAt s j k → k.inside ≡ true → k.seen ≡ log
  pub is_legal : legal c log
  pub passes : PassesBelow enrolled log
  pub seen : (j : ℕ) (k : Knowledge E A C) → IsAt s j k → StartsWith log k.seen
  pub own : (j n : ℕ) (k : Knowledge E A C) → IsAt s j k → k.number ≡ Some n
      → steps_of n log ≡ steps_of n k.seen
  pub one_setting : (j : ℕ) (k : Knowledge E A C) (d : C) → IsAt s j k → k.setting ≡ Some d → d ≡ c

-- the rule of the gate in plain sentences
pub record PlainRule {S E A C : Type 0} (journal : S → List (StepOf E A)) (setting : S → C)
    (legal : C → List (StepOf E A) → Type 0) (c : C)
    (s : State (Option S) (View E A C)) : Type 0 where
  pub drawn : ℕ
  pub serving : ℕ
  pub enrolled : ℕ
  pub log : List (StepOf E A)
  pub words : s.words ≡ drawn ∷ serving ∷ enrolled ∷ []
  pub behind : WordsAreBehind s drawn serving enrolled
  pub tickets : TicketsDiffer s drawn serving enrolled
  pub inside : OneIsInside s drawn serving enrolled
  pub numbers : NumbersDiffer s drawn serving enrolled
  pub journals : OneJournal journal setting legal c s enrolled log
