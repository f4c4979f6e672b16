-- The frame of a step: the word that it finds, and steps that change no word.
use Rattle.std.proofs.Common.{◌≡◌, ◌≢◌, ℕ, eqb, eq-eqb, ne_eqb, Bool, true, List, [], set, get_or, sym, ap, ◌∙◌, subst, Option}
use mathlib.Core.Option.{some}
use mathlib.Core.Logic.{dite}
use native.Mathlib.Decide.{ℕ_discrete}
use lib.ListN.{get_elem?}
use lib.Seq.{set-get_or}
use prog.Atomic.{either}
use Rattle.atomic_table.specs.Table.{State, Act, keeps, stepped, carried_after, Valid}
use Rattle.journal_core.specs.declared.step.Step.{Step as StepOf}
use Rattle.ticket_gate.specs.declared.view.Knowledge.{Knowledge}
use Rattle.ticket_gate.specs.declared.view.View.{View}
use Rattle.ticket_gate.specs.Rule.{ViewAgrees, GateRule, view_of}
use Rattle.ticket_gate.specs.Steps.{SeatState, with_own}
use Rattle.ticket_gate.proofs.SeatLemmas.{each_after}
use Rattle.ticket_gate.proofs.StatePlaceLemmas.{placed-set}

-- the whole table as data
abbrev pub Whole : Type 0 → Type 0 → Type 0 → Type 0 → Type 0
Whole S E A C = State (Option S) (View E A C)

module _ {S E A C : Type 0} (journal : S → List (StepOf E A)) (setting : S → C) (legal : C → List (StepOf E A) → Type 0) (c : C) where
  module _ (s : Whole S E A C) (r : GateRule journal setting legal c s) where
    pub drawn_at : get_or s.words 0 0 ≡ r.standing.drawn
    drawn_at = ap (λ (words : List ℕ). get_or words 0 0) r.words

    pub serving_at : get_or s.words 1 0 ≡ r.standing.serving
    serving_at = ap (λ (words : List ℕ). get_or words 1 0) r.words

    pub enrolled_at : get_or s.words 2 0 ≡ r.standing.enrolled
    enrolled_at = ap (λ (words : List ℕ). get_or words 2 0) r.words

    -- a step that leaves the word as it was and moves no slot
    pub stays : (i id n : ℕ) (v w : View E A C) (held : List (ℕ × Option S)) → get_or s.words i 0 ≡ n → get_elem? s.views id ≡ some v → (v.own.inside ≡ true → w.own.inside ≡ true) → ViewAgrees r.standing c id w
        → GateRule journal setting legal c (stepped s i n id held w keeps)
    stays i id n v w held is at still mine = subst (λ (k : ℕ). GateRule journal setting legal c (stepped s i k id held w keeps)) is unchanged
      where
        unchanged : GateRule journal setting legal c (stepped s i (get_or s.words i 0) id held w keeps)
        unchanged = subst (λ (words : List ℕ). GateRule journal setting legal c record { words = words; homes = s.homes; views = set s.views id w }) (sym (set-get_or s.words i 0)) record {
          standing = r.standing;
          words = r.words;
          behind = r.behind;
          few = r.few;
          is_legal = r.is_legal;
          passes = r.passes;
          placed = placed-set journal setting r.standing.journal c s.homes s.views id v w r.standing.inside at still r.placed;
          each_view = each_after (ViewAgrees r.standing c) s.views id w mine (λ j u _ there. r.each_view j u there);
        }

  -- a step whose word is at n, which becomes m
  abbrev pub Goes : Whole S E A C → ℕ → ℕ → List (ℕ × Option S) → (ℕ → SeatState S E A C → Type 0) → ℕ → ℕ → Type 0
  Goes s id i held then n m = (w : View E A C) × (a : Act (Option S)) × Valid s.homes held a × GateRule journal setting legal c (stepped s i m id held w a) × then n (w, carried_after held a)

  -- the word that the step finds
  pub goes_at : (s : Whole S E A C) (id i : ℕ) (held : List (ℕ × Option S)) (then : ℕ → SeatState S E A C → Type 0) (f : ℕ → ℕ) (n : ℕ) → get_or s.words i 0 ≡ n → Goes s id i held then n (f n)
      → Goes s id i held then (get_or s.words i 0) (f (get_or s.words i 0))
  goes_at s id i held then f n is goes = subst (λ (k : ℕ). Goes s id i held then k (f k)) (sym is) goes

  -- a compare-exchange that finds n
  pub goes_if : (s : Whole S E A C) (id i : ℕ) (held : List (ℕ × Option S)) (then : ℕ → SeatState S E A C → Type 0) (n old new : ℕ) → (n ≡ old → Goes s id i held then n new) → (n ≢ old → Goes s id i held then n n)
      → Goes s id i held then n (either (eqb n old) new n)
  goes_if s id i held then n old new hit miss = dite (ℕ_discrete n old)
      (λ is. subst (λ (b : Bool). Goes s id i held then n (either b new n)) (sym (eq-eqb n old is)) (hit is))
      (λ apart. subst (λ (b : Bool). Goes s id i held then n (either b new n)) (sym (ne_eqb n old apart)) (miss apart))

module _ {S E A C : Type 0} where
  -- a place at rest after a step that changes its own knowledge
  pub alone_after : (me me' : SeatState S E A C) (k : Knowledge E A C) → me ≡ (view_of me.0.own, []) → me' ≡ (with_own me.0 k, me.1) → me' ≡ (view_of me'.0.own, [])
  alone_after me me' k is told =
      let now : me' ≡ (view_of k, []) = told ∙ (λ i. (record { own = k; other = (is i).0.other }, (is i).1)) in
      now ∙ ap (λ (u : Knowledge E A C). (view_of u, [])) (sym (ap (λ (z : SeatState S E A C). z.0.own) now))

  pub own_after : (me me' : SeatState S E A C) (k : Knowledge E A C) → me' ≡ (with_own me.0 k, me.1) → me'.0.own ≡ k
  own_after me me' k told = ap (λ (z : SeatState S E A C). z.0.own) told
