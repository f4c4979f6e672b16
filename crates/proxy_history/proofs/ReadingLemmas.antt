-- What is read off a history step by step: yield_of, counted or asked of each step.
use Rattle.std.proofs.Common.{◌≡◌, ℕ, ◌+◌, Bool, false, ◌||◌, List, [], ◌∷◌, ◌++◌, filter, refl, sym, ap, ◌∙◌, inl, inr, arith, if◌then◌else◌}
use Rattle.std.proofs.lemmas.Bool.{cases_Bool}
use Rattle.std.proofs.lemmas.List.{append-nil, append_assoc}
use Rattle.proxy_history.specs.History.{History, Step, times, has, request_by, requests}
use Rattle.proxy_history.specs.Replies.{reply_by, replies_from}
use Rattle.proxy_history.specs.Output.{handed_text, transcript, sent_text, upstream}
use Rattle.proxy_history.specs.declared.event.Event.{Event}

-- WHAT STEPS YIELD

-- what the steps give, the oldest first
abbrev pub yield_of : {X : Type 0} → (Step → List X) → History → List X
yield_of f [] = []
yield_of f (s ∷ before) = yield_of f before ++ f s

abbrev pub handed_text_of : ℕ → Step → List ℕ
handed_text_of c s = handed_text c s.event s.answer

abbrev pub sent_text_of : ℕ → ℕ → Step → List ℕ
sent_text_of h e s = sent_text h e s.event s.answer

pub transcript-yield_of : (c : ℕ) (H : History) → transcript c H ≡ yield_of (handed_text_of c) H
transcript-yield_of c [] = refl
transcript-yield_of c (s ∷ before) = ap (λ z. z ++ handed_text_of c s) (transcript-yield_of c before)

pub requests-yield_of : (c : ℕ) (H : History) → requests c H ≡ yield_of (λ (s : Step). request_by c s.event) H
requests-yield_of c [] = refl
requests-yield_of c (s ∷ before) = ap (λ z. z ++ request_by c s.event) (requests-yield_of c before)

pub upstream-yield_of : (h e : ℕ) (H : History) → upstream h e H ≡ yield_of (sent_text_of h e) H
upstream-yield_of h e [] = refl
upstream-yield_of h e (s ∷ before) = ap (λ z. z ++ sent_text_of h e s) (upstream-yield_of h e before)

pub came-yield_of : (h e : ℕ) (H : History) → replies_from h e H ≡ yield_of (λ (s : Step). reply_by h e s.event) H
came-yield_of h e [] = refl
came-yield_of h e (s ∷ before) = ap (λ z. z ++ reply_by h e s.event) (came-yield_of h e before)

-- LATER STEPS

pub yield_of-append : {X : Type 0} (f : Step → List X) (later before : History)
    → yield_of f (later ++ before) ≡ yield_of f before ++ yield_of f later
yield_of-append f [] before = sym (append-nil (yield_of f before))
yield_of-append f (s ∷ later) before =
    ap (λ z. z ++ f s) (yield_of-append f later before)
    ∙ append_assoc (yield_of f before) (yield_of f later) (f s)

pub times-append : (is : Event → Bool) (later before : History)
    → times is (later ++ before) ≡ times is later + times is before
times-append is [] before = omega arith
times-append is (s ∷ later) before = elim (cases_Bool (is s.event)) [
  | inl t ↦ rw t (omega (arith, times-append is later before))
  | inr f ↦ rw f (times-append is later before)
]

pub has-append : (is : Event → Bool) (later before : History)
    → has is (later ++ before) ≡ (has is later || has is before)
has-append is [] before = refl
has-append is (s ∷ later) before = elim (cases_Bool (is s.event)) [
  | inl t ↦ rw t refl
  | inr f ↦ rw f (has-append is later before)
]

-- OWN STEPS, which pass a test

pub yield_of-filter : {X : Type 0} (f : Step → List X) (own : Step → Bool)
    → ((s : Step) → own s ≡ false → f s ≡ []) → (H : History) → yield_of f (filter own H) ≡ yield_of f H
yield_of-filter f own none [] = refl
yield_of-filter f own none (s ∷ before) = elim (cases_Bool (own s)) [
  | inl t ↦ rw t (ap (λ z. z ++ f s) (yield_of-filter f own none before))
  | inr n ↦ rw (n, none s n) (yield_of-filter f own none before ∙ sym (append-nil (yield_of f before)))
]

pub times-filter : (is : Event → Bool) (own : Step → Bool) → ((s : Step) → own s ≡ false → is s.event ≡ false)
    → (H : History) → times is (filter own H) ≡ times is H
times-filter is own none [] = refl
times-filter is own none (s ∷ before) = elim (cases_Bool (own s)) [
  | inl t ↦ rw t (ap (λ z. if is s.event then z + 1 else z) (times-filter is own none before))
  | inr n ↦ rw (n, none s n) (times-filter is own none before)
]

pub has-filter : (is : Event → Bool) (own : Step → Bool) → ((s : Step) → own s ≡ false → is s.event ≡ false)
    → (H : History) → has is (filter own H) ≡ has is H
has-filter is own none [] = refl
has-filter is own none (s ∷ before) = elim (cases_Bool (own s)) [
  | inl t ↦ rw t (ap (λ z. is s.event || z) (has-filter is own none before))
  | inr n ↦ rw (n, none s n) (has-filter is own none before)
]
