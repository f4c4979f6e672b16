-- What a filter keeps.
use Rattle.std.proofs.Common.{◌≡◌, ◌&&◌, Bool, true, false, List, [], ◌∷◌, filter, Contains, refl, sym, ap, ◌∙◌, subst, inl, inr}
use Rattle.std.proofs.lemmas.Bool.{cases_Bool}
use Rattle.list_lemmas.proofs.MemberLemmas.{Contains-nil, Contains-first, Contains-later, Contains-cases}

kept_first : {X : Type 0} (f : X → Bool) (y : X) (xs : List X) → f y ≡ true → filter f (y ∷ xs) ≡ y ∷ filter f xs
kept_first f y xs t = rw t refl

left_first : {X : Type 0} (f : X → Bool) (y : X) (xs : List X) → f y ≡ false → filter f (y ∷ xs) ≡ filter f xs
left_first f y xs t = rw t refl

-- a member that passes the test is kept
pub Contains-filter_passing : {X : Type 0} (f : X → Bool) (xs : List X) (x : X) → Contains xs x → f x ≡ true → Contains (filter f xs) x
Contains-filter_passing f [] x h e = h
Contains-filter_passing {X} f (y ∷ xs) x h e = elim (Contains-cases y xs x h) [
  | inl one ↦
      let t : f y ≡ true = ap f one ∙ e in
      let kept : x ∷ filter f xs ≡ filter f (y ∷ xs) = ap (λ z. z ∷ filter f xs) (sym one) ∙ sym (kept_first f y xs t) in
      subst (λ (z : List X). Contains z x) kept (Contains-first x (filter f xs))
  | inr more ↦ elim (cases_Bool (f y)) [
    | inl t ↦ subst (λ (z : List X). Contains z x) (sym (kept_first f y xs t)) (Contains-later y (filter f xs) x (Contains-filter_passing f xs x more e))
    | inr n ↦ subst (λ (z : List X). Contains z x) (sym (left_first f y xs n)) (Contains-filter_passing f xs x more e)
  ]
]

-- what is kept passes the test
pub filter-passes : {X : Type 0} (f : X → Bool) (xs : List X) (x : X) → Contains (filter f xs) x → f x ≡ true
filter-passes f [] x h = absurd (Contains-nil x h)
filter-passes {X} f (y ∷ xs) x h = elim (cases_Bool (f y)) [
  | inl t ↦ elim (Contains-cases y (filter f xs) x (subst (λ (z : List X). Contains z x) (kept_first f y xs t) h)) [
    | inl one ↦ ap f (sym one) ∙ t
    | inr more ↦ filter-passes f xs x more
  ]
  | inr n ↦ filter-passes f xs x (subst (λ (z : List X). Contains z x) (left_first f y xs n) h)
]

-- what is kept was in the list
pub Contains-filter : {X : Type 0} (f : X → Bool) (xs : List X) (x : X) → Contains (filter f xs) x → Contains xs x
Contains-filter f [] x h = h
Contains-filter {X} f (y ∷ xs) x h = elim (cases_Bool (f y)) [
  | inl t ↦ elim (Contains-cases y (filter f xs) x (subst (λ (z : List X). Contains z x) (kept_first f y xs t) h)) [
    | inl one ↦ subst (λ (z : X). Contains (z ∷ xs) x) (sym one) (Contains-first x xs)
    | inr more ↦ Contains-later y xs x (Contains-filter f xs x more)
  ]
  | inr n ↦ Contains-later y xs x (Contains-filter f xs x (subst (λ (z : List X). Contains z x) (left_first f y xs n) h))
]

-- tests that agree keep the same
pub filter-same : {X : Type 0} (f g : X → Bool) → ((x : X) → f x ≡ g x) → (xs : List X) → filter f xs ≡ filter g xs
filter-same f g e [] = refl
filter-same f g e (x ∷ xs) = rw (e x, filter-same f g e xs) refl

-- a filter by two tests is one after the other
pub filter-both : {X : Type 0} (f g : X → Bool) (xs : List X) → filter (λ x. f x && g x) xs ≡ filter g (filter f xs)
filter-both f g [] = refl
filter-both f g (x ∷ xs) = elim (cases_Bool (f x)) [
  | inl t ↦ rw (t) (rw (filter-both f g xs) refl)
  | inr e ↦ rw (e) (filter-both f g xs)
]
