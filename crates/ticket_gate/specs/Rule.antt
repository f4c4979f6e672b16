-- The rule of the gate: what holds of its words, its slot and the views of all its seats between
-- any two steps.
-- It names witnesses, so that each view can be judged alone. `PlainRule` says what it means in
-- plain sentences.
use Rattle.std.specs.Prelude.{◌≡◌, ◌≢◌, ℕ, ◌<◌, ◌≤◌, List, [], ◌∷◌, true, false, Option, Some, None}
use mathlib.Core.Option as maybe
use lib.ListN.{get_elem?}
use Rattle.atomic_table.specs.Table.{State}
use Rattle.journal_core.specs.declared.step.Step.{Step as StepOf}
use Rattle.ticket_gate.specs.declared.view.Knowledge.{Knowledge}
use Rattle.ticket_gate.specs.declared.view.View.{View}
use Rattle.ticket_gate.specs.Journal.{steps_of, StartsWith, PassesBelow}

-- How a gate stands: its three words, its journal, the seat that is inside if there is one, the
-- seat that drew each ticket and the seat that has each number.
pub record Standing (E A : Type 0) : Type 0 where
  pub drawn : ℕ
  pub serving : ℕ
  pub enrolled : ℕ
  pub journal : List (StepOf E A)
  pub inside : maybe.Option ℕ
  pub holder_of : ℕ → ℕ
  pub owner_of : ℕ → ℕ

module _ {E A C : Type 0} (g : Standing E A) (c : C) where
  -- what the seat j knows agrees with how the gate stands
  pub record Agrees (j : ℕ) (k : Knowledge E A C) : Type 0 where
    pub last_served : k.last_served ≤ g.serving
    pub last_drawn : k.last_drawn ≤ g.drawn
    pub last_enrolled : k.last_enrolled ≤ g.enrolled
    pub ticket : (t : ℕ) → k.ticket ≡ Some t → (g.serving ≤ t) × (t < g.drawn) × (g.holder_of t ≡ j)
    pub inside : k.inside ≡ true
        → (k.ticket ≡ Some g.serving) × (g.inside ≡ maybe.some j) × (k.seen ≡ g.journal)
    pub number : (n : ℕ) → k.number ≡ Some n
        → (n < g.enrolled) × (g.owner_of n ≡ j) × (steps_of n g.journal ≡ steps_of n k.seen)
    pub spare : k.number ≡ None → k.ticket ≡ None
    pub seen : StartsWith g.journal k.seen
    pub setting : (d : C) → k.setting ≡ Some d → d ≡ c

  -- so does what it knows of a second pass, which has no ticket and another number
  abbrev pub OtherAgrees : ℕ → Knowledge E A C → Option (Knowledge E A C) → Type 0
  OtherAgrees j k None = Unit {0}
  OtherAgrees j k (Some l) =
      Agrees j l × (l.ticket ≡ None) × (l.inside ≡ false)
      × ((n m : ℕ) → k.number ≡ Some n → l.number ≡ Some m → n ≢ m)

  -- what a seat knows fits the words and the state
  abbrev pub ViewAgrees : ℕ → View E A C → Type 0
  ViewAgrees j v = Agrees j v.own × OtherAgrees j v.own v.other

module _ {S E A C : Type 0} (journal : S → List (StepOf E A)) (setting : S → C) where
  -- the slot has the state with this journal, or one seat is inside and the slot is out with it
  abbrev pub StateIsPlaced : List (StepOf E A) → C → List (maybe.Option (Option S))
      → List (View E A C) → maybe.Option ℕ → Type 0
  StateIsPlaced log c homes views maybe.none =
      (x : S) × (homes ≡ maybe.some (Some x) ∷ []) × (journal x ≡ log) × (setting x ≡ c)
  StateIsPlaced log c homes views (maybe.some j) =
      (v : View E A C) × (homes ≡ maybe.none ∷ []) × (get_elem? views j ≡ maybe.some v)
      × (v.own.inside ≡ true)

-- the rule: what holds of the words, the slot and all views between any two atomic steps, with witnesses
pub record GateRule {S E A C : Type 0} (journal : S → List (StepOf E A)) (setting : S → C)
    (legal : C → List (StepOf E A) → Type 0) (c : C)
    (s : State (Option S) (View E A C)) : Type 0 where
  pub standing : Standing E A
  pub words : s.words ≡ standing.drawn ∷ standing.serving ∷ standing.enrolled ∷ []
  pub behind : standing.serving ≤ standing.drawn
  pub few : standing.enrolled ≤ 256
  pub is_legal : legal c standing.journal
  pub passes : PassesBelow standing.enrolled standing.journal
  pub placed : StateIsPlaced journal setting standing.journal c s.homes s.views standing.inside
  pub each_view : (j : ℕ) (v : View E A C) → get_elem? s.views j ≡ maybe.some v
      → ViewAgrees standing c j v

-- a place that knows nothing but the setting
abbrev pub blank_state : {E A C : Type 0} → Option C → Knowledge E A C
blank_state setting = record {
  number = None;
  ticket = None;
  inside = false;
  last_served = 0;
  looks = 0;
  last_drawn = 0;
  last_enrolled = 0;
  seen = [];
  setting = setting;
}

-- a view of one place
abbrev pub view_of : {E A C : Type 0} → Knowledge E A C → View E A C
view_of k = record { own = k; other = None }

-- the view of a gate's first seat, which has found both words of the tickets at `first`
abbrev pub first_view : {E A C : Type 0} → C → ℕ → View E A C
first_view c first =
    view_of (record (blank_state (Some c)) { last_served = first; last_drawn = first })

-- the view that is left where a seat was joined to another
abbrev pub spent_view : {E A C : Type 0} → View E A C
spent_view = view_of (blank_state None)
