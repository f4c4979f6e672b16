-- Whether an item of a list passes a test, and whether each does.
use Rattle.std.proofs.Common.{◌≡◌, Bool, true, false, List, [], ◌∷◌, filter, Contains, refl, sym, ap, ◌∙◌, inl, inr, ◌<◌, ℕ, zero, suc, length, get_or, arith}
use Rattle.std.specs.List.{list_any, list_all}
use Rattle.std.proofs.lemmas.Bool.{cases_Bool, or_parts, or_from, or_cases, or_left, or_right, and_parts}
use Rattle.list_lemmas.proofs.MemberLemmas.{Contains-nil, Contains-first, Contains-later, Contains-cases}

-- where one passes, a member that does
pub list_any-true : {X : Type 0} (test : X → Bool) (xs : List X) → list_any test xs ≡ true → (x : X) × Contains xs x × (test x ≡ true)
list_any-true test [] e = absurd cc
list_any-true test (y ∷ xs) e = elim (or_cases (test y) (list_any test xs) e) [
  | inl here ↦ (y, Contains-first y xs, here)
  | inr more ↦ let (x, is_in, passes) = list_any-true test xs more in (x, Contains-later y xs x is_in, passes)
]

-- where a member passes, one does
pub list_any-member : {X : Type 0} (test : X → Bool) (xs : List X) (x : X) → Contains xs x → test x ≡ true → list_any test xs ≡ true
list_any-member test [] x h e = absurd (Contains-nil x h)
list_any-member test (y ∷ xs) x h e = elim (Contains-cases y xs x h) [
  | inl one ↦ or_left (test y) (list_any test xs) (ap test one ∙ e)
  | inr more ↦ or_right (test y) (list_any test xs) (list_any-member test xs x more e)
]

-- where none passes, no member does
pub list_any-false : {X : Type 0} (test : X → Bool) (xs : List X) (x : X) → list_any test xs ≡ false → Contains xs x → test x ≡ false
list_any-false test [] x e h = absurd (Contains-nil x h)
list_any-false test (y ∷ xs) x e h =
    let a = or_parts (test y) (list_any test xs) e in
    elim (Contains-cases y xs x h) [ inl one ↦ rw (sym one) a.0 | inr more ↦ list_any-false test xs x a.1 more ]

-- where no member passes, none does
pub list_any-none : {X : Type 0} (test : X → Bool) (xs : List X) → ((x : X) → Contains xs x → test x ≡ false) → list_any test xs ≡ false
list_any-none test [] f = refl
list_any-none test (y ∷ xs) f = or_from _ _ (f y (Contains-first y xs)) (list_any-none test xs (λ x h. f x (Contains-later y xs x h)))

-- a test that none passes none passes in a filter
pub list_any-filter : {X : Type 0} (t f : X → Bool) (xs : List X) → list_any t xs ≡ false → list_any t (filter f xs) ≡ false
list_any-filter t f [] e = refl
list_any-filter t f (x ∷ xs) e =
    let a = or_parts (t x) (list_any t xs) e in
    elim (cases_Bool (f x)) [ inl y ↦ rw (y) (or_from _ _ a.0 (list_any-filter t f xs a.1)) | inr n ↦ rw (n) (list_any-filter t f xs a.1) ]

-- where each passes, the item of a place does
pub list_all-get_or : {X : Type 0} (test : X → Bool) (xs : List X) (k : ℕ) (d : X) → list_all test xs ≡ true → k < length xs → test (get_or xs k d) ≡ true
list_all-get_or test [] k d e l = absurd (omega (arith, l))
list_all-get_or test (x ∷ xs) zero d e l = (and_parts (test x) (list_all test xs) e).0
list_all-get_or test (x ∷ xs) (suc k) d e l = list_all-get_or test xs k d (and_parts (test x) (list_all test xs) e).1 (omega (arith, l))
