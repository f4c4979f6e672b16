-- Epochs and the faults that end them.
use Rattle.std.proofs.Common.{◌≡◌, ◌↔◌, ℕ, ◌+◌, ◌<◌, ◌≤◌, Bool, true, false, ◌==◌, ◌||◌, [], ◌∷◌, ◌++◌, None, refl, sym, ap, ◌∙◌, inl, inr, arith}
use Rattle.std.proofs.lemmas.Bool.{cases_Bool, cases_lt, eqb-true, not-false, eq-eqb, or_cases, or_parts, or_from, and_parts}
use Rattle.proxy_history.specs.Setting.{Setting}
use Rattle.proxy_history.specs.History.{History, Step, epoch, has, is_fault}
use Rattle.proxy_history.specs.Part.{Past}
use Rattle.proxy_history.specs.Past.{past}
use Rattle.proxy_history.specs.Cause.{own_cause, causes}
use Rattle.proxy_history.specs.Legal.{IsLegal}
use Rattle.proxy_history.specs.Laws.{is_fault_in}
use Rattle.proxy_history.specs.declared.event.Kind.{Kind}
use Rattle.proxy_history.specs.declared.event.Event.{Event}
use Rattle.proxy_history.specs.declared.event.Event.TheVariants.{Failed}
use Rattle.proxy_history.proofs.GrowthLemmas.{times_grows}
use Rattle.proxy_history.proofs.causes.NoCauseLemmas.{are_false}

-- a fault that is accepted is of the present epoch
fault_is_current : (S : Setting) (x : Past) (host e t : ℕ) (kind : Kind) → own_cause S x (Failed host e kind t) ≡ None → e ≡ epoch host x.steps
fault_is_current S x host e t kind n =
    let a = are_false (causes S x (Failed host e kind t)) n in
    eqb-true e (epoch host x.steps) (not-false (e == epoch host x.steps) a.1.0)

-- a fault in an epoch is one of its host, in the present epoch
fault_now : (S : Setting) (x : Past) (event : Event) (h e : ℕ) → own_cause S x event ≡ None → is_fault_in h e event ≡ true → (is_fault h event ≡ true) × (e ≡ epoch h x.steps)
fault_now S x (Failed host ep kind t) h e n i =
    let a = and_parts (host == h) (ep == e) i in
    (a.0, sym (eqb-true ep e a.1) ∙ fault_is_current S x host ep t kind n ∙ ap (λ k. epoch k x.steps) (eqb-true host h a.0))
fault_now S x _ h e n i = absurd cc

-- and the other way
now_fault : (S : Setting) (x : Past) (event : Event) (h e : ℕ) → own_cause S x event ≡ None → is_fault h event ≡ true → e ≡ epoch h x.steps → is_fault_in h e event ≡ true
now_fault S x (Failed host ep kind t) h e n i q =
    let same : ep ≡ e = fault_is_current S x host ep t kind n ∙ ap (λ k. epoch k x.steps) (eqb-true host h i) ∙ sym q in
    rw (i, eq-eqb ep e same) refl
now_fault S x _ h e n i q = absurd cc

one_more : (h : ℕ) (s : Step) (H : History) → is_fault h s.event ≡ true → epoch h (s ∷ H) ≡ epoch h H + 1
one_more h s H i = rw i refl

same_epoch : (h : ℕ) (s : Step) (H : History) → is_fault h s.event ≡ false → epoch h (s ∷ H) ≡ epoch h H
same_epoch h s H i = rw i refl

true_left : (a b : Bool) → a ≡ true → (a || b) ≡ true
true_left a b e = rw e refl

true_right : (a b : Bool) → b ≡ true → (a || b) ≡ true
true_right true b e = refl
true_right false b e = e

fault_ends : (S : Setting) (H : History) (h e : ℕ) → IsLegal S H → has (is_fault_in h e) H ≡ true → e < epoch h H
fault_ends S [] h e legal i = absurd cc
fault_ends S (s ∷ before) h e legal i = elim (or_cases (is_fault_in h e s.event) (has (is_fault_in h e) before) i) [
  | inl now ↦ let a = fault_now S (past S before) s.event h e legal.1.has_no_cause now in omega (arith, a.1, one_more h s before a.0)
  | inr earlier ↦ omega (arith, fault_ends S before h e legal.0 earlier, times_grows (is_fault h) s before)
]

ended_by_fault : (S : Setting) (H : History) (h e : ℕ) → IsLegal S H → e < epoch h H → has (is_fault_in h e) H ≡ true
ended_by_fault S [] h e legal l = absurd (omega (arith, l))
ended_by_fault S (s ∷ before) h e legal l = elim (cases_lt e (epoch h before)) [
  | inl earlier ↦ true_right (is_fault_in h e s.event) (has (is_fault_in h e) before) (ended_by_fault S before h e legal.0 earlier)
  | inr late ↦ elim (cases_Bool (is_fault h s.event)) [
    | inl i ↦ true_left (is_fault_in h e s.event) (has (is_fault_in h e) before)
        (now_fault S (past S before) s.event h e legal.1.has_no_cause i (omega (arith, l, late, one_more h s before i)))
    | inr i ↦ absurd (omega (arith, l, late, same_epoch h s before i))
  ]
]

pub epochs_end_by_faults : (S : Setting) (H : History) (h e : ℕ) → IsLegal S H → (has (is_fault_in h e) H ≡ true) ↔ (e < epoch h H)
epochs_end_by_faults S H h e legal = (fault_ends S H h e legal, ended_by_fault S H h e legal)

-- FAULTS AND EPOCHS, in any history

grown : (later before : History) (h : ℕ) → epoch h before ≤ epoch h (later ++ before)
grown [] before h = omega arith
grown (s ∷ later) before h = omega (arith, grown later before h, times_grows (is_fault h) s (later ++ before))

none_keeps : (later before : History) (h : ℕ) → has (is_fault h) later ≡ false → epoch h (later ++ before) ≡ epoch h before
none_keeps [] before h e = refl
none_keeps (s ∷ later) before h e =
    let a = or_parts (is_fault h s.event) (has (is_fault h) later) e in
    same_epoch h s (later ++ before) a.0 ∙ none_keeps later before h a.1

keeps_none : (later before : History) (h : ℕ) → epoch h (later ++ before) ≡ epoch h before → has (is_fault h) later ≡ false
keeps_none [] before h e = refl
keeps_none (s ∷ later) before h e = elim (cases_Bool (is_fault h s.event)) [
  | inl i ↦ absurd (omega (arith, e, one_more h s (later ++ before) i, grown later before h))
  | inr i ↦ or_from _ _ i (keeps_none later before h (sym (same_epoch h s (later ++ before) i) ∙ e))
]

pub faults_raise_epochs : (later before : History) (h : ℕ) → (has (is_fault h) later ≡ false) ↔ (epoch h (later ++ before) ≡ epoch h before)
faults_raise_epochs later before h = (none_keeps later before h, keeps_none later before h)
