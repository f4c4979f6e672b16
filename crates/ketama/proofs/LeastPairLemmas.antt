-- The least pair of some kind, and how it changes as pairs come.
use Rattle.std.proofs.Common.{◌≡◌, ℕ, ◌<◌, ◌≤◌, Bool, true, false, ltb, eqb, ◌&&◌, ◌||◌, ◌⊎◌, inl, inr, Option, Some, None, List, [], ◌∷◌, ◌++◌, length, take, get_or, ◌+◌, refl, sym, subst, arith}
use Rattle.std.proofs.lemmas.Bool.{cases_Bool, cases_order, ltb-true, ltb-false, eqb-true, eqb-false, or_cases, or_parts, and_parts, and_cases, cond-true, cond-false}
use Rattle.std.proofs.lemmas.List.{take_more}
use Rattle.std.proofs.lemmas.List.Elements.{Contains-append_left, Contains-push, Contains-push_cases}
use Rattle.ketama.specs.Owner.{is_usable, IsUsablePairFrom, IsAtOrBefore, IsLeast, IsLeastIfAny, lesser_pair}

-- ---- the order

pub IsAtOrBefore-refl : (a : ℕ × ℕ) → IsAtOrBefore a a
IsAtOrBefore-refl a = inr (refl, omega arith)

pub IsAtOrBefore-trans : (a b c : ℕ × ℕ) → IsAtOrBefore a b → IsAtOrBefore b c → IsAtOrBefore a c
IsAtOrBefore-trans a b c ab bc = elim ab [
  | inl less ↦ elim bc [ inl less' ↦ inl (omega arith) | inr same' ↦ inl (omega arith) ]
  | inr same ↦ elim bc [ inl less' ↦ inl (omega arith) | inr same' ↦ inr (omega arith, omega arith) ]
]

-- each at or before the other: the same host
pub same_host : (a b : ℕ × ℕ) → IsAtOrBefore a b → IsAtOrBefore b a → a.1 ≡ b.1
same_host a b ab ba = elim ab [
  | inl less ↦ elim ba [ inl less' ↦ absurd (omega arith) | inr same' ↦ absurd (omega arith) ]
  | inr same ↦ elim ba [ inl less' ↦ absurd (omega arith) | inr same' ↦ omega arith ]
]

lesser_test : ℕ × ℕ → ℕ × ℕ → Bool
lesser_test a b = ltb b.0 a.0 || (eqb b.0 a.0 && ltb b.1 a.1)

not_less : (a b : ℕ × ℕ) → ltb b.0 a.0 ≡ false → (eqb b.0 a.0 && ltb b.1 a.1) ≡ false → IsAtOrBefore a b
not_less a b above fails =
    let at_least : a.0 ≤ b.0 = ltb-false b.0 a.0 above in
    elim (cases_order a.0 b.0) [
      | inl same ↦ elim (and_cases (eqb b.0 a.0) (ltb b.1 a.1) fails) [
        | inl apart ↦ absurd (eqb-false b.0 a.0 apart (sym same))
        | inr after ↦ inr (same, ltb-false b.1 a.1 after)
      ]
      | inr apart ↦ elim apart [ inl less ↦ inl less | inr more ↦ absurd (omega arith) ]
    ]

pub lesser_cases : (a b : ℕ × ℕ) → ((lesser_pair a (Some b) ≡ b) × IsAtOrBefore b a) ⊎ ((lesser_pair a (Some b) ≡ a) × IsAtOrBefore a b)
unfolding lesser_test
lesser_cases a b =
    elim (cases_Bool (lesser_test a b)) [
      | inl passes ↦ inl (
        cond-true _ b a passes,
        elim (or_cases (ltb b.0 a.0) (eqb b.0 a.0 && ltb b.1 a.1) passes) [
          | inl less ↦ inl (ltb-true b.0 a.0 less)
          | inr same ↦
              let both = and_parts (eqb b.0 a.0) (ltb b.1 a.1) same in
              let below : b.1 < a.1 = ltb-true b.1 a.1 both.1 in
              inr (eqb-true b.0 a.0 both.0, omega arith)
        ],
      )
      | inr fails ↦ let parts = or_parts (ltb b.0 a.0) (eqb b.0 a.0 && ltb b.1 a.1) fails in inr (cond-false _ b a fails, not_less a b parts.0 parts.1)
    ]

-- ---- the least of a kind

-- the kind's pairs are those of the other kind
pub IsLeastIfAny-same : (K L : ℕ × ℕ → Type 0) → ((pair : ℕ × ℕ) → K pair → L pair) → ((pair : ℕ × ℕ) → L pair → K pair) → (least : Option (ℕ × ℕ)) → IsLeastIfAny K least → IsLeastIfAny L least
IsLeastIfAny-same K L to from None none = λ pair l. none pair (from pair l)
IsLeastIfAny-same K L to from (Some least) is = record { kind = to least is.kind; first = λ pair l. is.first pair (from pair l) }

-- one more pair comes to the kind
pub IsLeastIfAny-lesser : (K L : ℕ × ℕ → Type 0) (new : ℕ × ℕ) → ((pair : ℕ × ℕ) → K pair → L pair) → L new → ((pair : ℕ × ℕ) → L pair → K pair ⊎ (new ≡ pair)) → (least : Option (ℕ × ℕ)) → IsLeastIfAny K least → IsLeast L (lesser_pair new least)
IsLeastIfAny-lesser K L new to is_new cases None none =
    record { kind = is_new; first = λ pair l. elim (cases pair l) [ inl k ↦ absurd (none pair k) | inr same ↦ subst (IsAtOrBefore new) same (IsAtOrBefore-refl new) ] }
IsLeastIfAny-lesser K L new to is_new cases (Some least) is =
    elim (lesser_cases new least) [
      | inl kept ↦ rw kept.0 (record {
        kind = to least is.kind;
        first = λ pair l. elim (cases pair l) [ inl k ↦ is.first pair k | inr same ↦ subst (IsAtOrBefore least) same kept.1 ];
      })
      | inr taken ↦ rw taken.0 (record {
        kind = is_new;
        first = λ pair l. elim (cases pair l) [
          | inl k ↦ IsAtOrBefore-trans new least pair taken.1 (is.first pair k)
          | inr same ↦ subst (IsAtOrBefore new) same (IsAtOrBefore-refl new)
        ];
      })
    ]

-- ---- a loop over pairs

from_pushed : (pairs : List (ℕ × ℕ)) (from : ℕ) (usable : List Bool) (new pair : ℕ × ℕ) → IsUsablePairFrom pairs from usable pair → IsUsablePairFrom (pairs ++ new ∷ []) from usable pair
from_pushed pairs from usable new pair is = record {
  at_or_above = is.at_or_above;
  usable_pair = record { member = Contains-append_left pairs (new ∷ []) pair is.usable_pair.member; host_usable = is.usable_pair.host_usable };
}

cases_pushed : (pairs : List (ℕ × ℕ)) (from : ℕ) (usable : List Bool) (new pair : ℕ × ℕ) → IsUsablePairFrom (pairs ++ new ∷ []) from usable pair → IsUsablePairFrom pairs from usable pair ⊎ (new ≡ pair)
cases_pushed pairs from usable new pair is =
    elim (Contains-push_cases pairs new pair is.usable_pair.member) [
      | inl member ↦ inl (record { at_or_above = is.at_or_above; usable_pair = record { member = member; host_usable = is.usable_pair.host_usable } })
      | inr same ↦ inr same
    ]

-- a pair that passes comes
pub least-taken : (pairs : List (ℕ × ℕ)) (from : ℕ) (usable : List Bool) (new : ℕ × ℕ) (least : Option (ℕ × ℕ)) → from ≤ new.0 → is_usable usable new.1 ≡ true → IsLeastIfAny (IsUsablePairFrom pairs from usable) least → IsLeastIfAny (IsUsablePairFrom (pairs ++ new ∷ []) from usable) (Some (lesser_pair new least))
least-taken pairs from usable new least above on is =
    IsLeastIfAny-lesser (IsUsablePairFrom pairs from usable) (IsUsablePairFrom (pairs ++ new ∷ []) from usable) new
    (from_pushed pairs from usable new)
    (record { at_or_above = above; usable_pair = record { member = Contains-push pairs new; host_usable = on } })
    (cases_pushed pairs from usable new) least is

-- a pair that does not pass comes
pub least-kept : (pairs : List (ℕ × ℕ)) (from : ℕ) (usable : List Bool) (new : ℕ × ℕ) (least : Option (ℕ × ℕ)) → (from ≤ new.0 → is_usable usable new.1 ≡ true → ⊥) → IsLeastIfAny (IsUsablePairFrom pairs from usable) least → IsLeastIfAny (IsUsablePairFrom (pairs ++ new ∷ []) from usable) least
least-kept pairs from usable new least fails is =
    IsLeastIfAny-same (IsUsablePairFrom pairs from usable) (IsUsablePairFrom (pairs ++ new ∷ []) from usable)
    (from_pushed pairs from usable new)
    (λ pair l. elim (cases_pushed pairs from usable new pair l) [
      | inl k ↦ k
      | inr same ↦ absurd (fails (subst (λ p. from ≤ p.0) (sym same) l.at_or_above) (subst (λ (p : ℕ × ℕ). is_usable usable p.1 ≡ true) (sym same) l.usable_pair.host_usable))
    ])
    least is

pub least-more : (pairs : List (ℕ × ℕ)) (i from : ℕ) (usable : List Bool) (least : Option (ℕ × ℕ)) → i < length pairs → IsLeastIfAny (IsUsablePairFrom (take i pairs ++ get_or pairs i (0, 0) ∷ []) from usable) least → IsLeastIfAny (IsUsablePairFrom (take (i + 1) pairs) from usable) least
least-more pairs i from usable least within is =
    subst (λ some. IsLeastIfAny (IsUsablePairFrom some from usable) least) (sym (take_more pairs i (0, 0) within)) is
