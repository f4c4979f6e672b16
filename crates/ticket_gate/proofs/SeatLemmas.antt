-- The views of all seats as a list, and which seat has a ticket or a number.
use Rattle.std.proofs.Common.{◌≡◌, ◌≢◌, ◌⊎◌, ℕ, zero, suc, ◌<◌, eqb, eq-eqb, ne_eqb, cond, true, false, true≢false, List, [], ◌∷◌, ◌++◌, length, set, refl, sym, ap, ◌∙◌, subst, inl, inr, ⊎_elim, arith, Some, None}
use mathlib.Core.Option.{some, some-injective, some-ne-none}
use mathlib.Core.Logic.{dite}
use native.Mathlib.Decide.{ℕ_discrete}
use lib.ListN.{get_elem?}
use Rattle.atomic_table.proofs.Lists.{at_set}

pub within : {X : Type 0} (l : List X) (i : ℕ) (a : X) → get_elem? l i ≡ some a → i < length l
within [] i a at = absurd (some-ne-none a (sym at))
within (x ∷ xs) zero a at = omega arith
within (x ∷ xs) (suc i) a at = let h = within xs i a at in omega arith

-- what stands in a list with one more element
pub at_more : {X : Type 0} (l : List X) (a b : X) (j : ℕ) → get_elem? (l ++ a ∷ []) j ≡ some b → (get_elem? l j ≡ some b) ⊎ ((j ≡ length l) × (a ≡ b))
at_more [] a b zero at = inr (refl, some-injective a b at)
at_more [] a b (suc j) at = absurd (some-ne-none b (sym at))
at_more (x ∷ xs) a b zero at = inl at
at_more (x ∷ xs) a b (suc j) at = ⊎_elim inl (λ (t : (j ≡ length xs) × (a ≡ b)). inr (ap suc t.0, t.1)) (at_more xs a b j at)

-- A fact of each seat still holds after the seat `me` has changed, if it holds of that seat and of the others.
pub each_after : {V : Type 0} (Fact : ℕ → V → Type 0) (views : List V) (me : ℕ) (mine : V) → Fact me mine → ((j : ℕ) (v : V) → j ≢ me → get_elem? views j ≡ some v → Fact j v)
    → (j : ℕ) (v : V) → get_elem? (set views me mine) j ≡ some v → Fact j v
each_after {V} Fact views me mine own others j v at =
    ⊎_elim (λ (t : (j ≡ me) × (mine ≡ v)). subst (λ (x : ℕ × V). Fact x.0 x.1) (λ i. (sym t.0 i, t.1 i)) own)
    (λ (t : (j ≢ me) × (get_elem? views j ≡ some v)). others j v t.0 t.1) (at_set views me j mine v at)

pub not_inside : false ≡ true → ⊥
not_inside e = true≢false (sym e)

pub not_none : {n : ℕ} → None ≡ Some n → ⊥
not_none e = cc

pub same_number : (n m : ℕ) → Some n ≡ Some m → n ≡ m
same_number n m e = cc

-- n is now the seat's own
abbrev pub given : ℕ → ℕ → (ℕ → ℕ) → ℕ → ℕ
given n seat seat_of k = cond (eqb k n) seat (seat_of k)

pub given-here : (n seat : ℕ) (seat_of : ℕ → ℕ) → given n seat seat_of n ≡ seat
given-here n seat seat_of = rw (eq-eqb n n refl) refl

pub given-else : (n seat k : ℕ) (seat_of : ℕ → ℕ) → k ≢ n → given n seat seat_of k ≡ seat_of k
given-else n seat k seat_of apart = rw (ne_eqb k n apart) refl

-- what was the seat `from`'s is now the seat `to`'s
abbrev pub moved : ℕ → ℕ → (ℕ → ℕ) → ℕ → ℕ
moved from to seat_of n = cond (eqb (seat_of n) from) to (seat_of n)

pub moved-here : (from to n : ℕ) (seat_of : ℕ → ℕ) → seat_of n ≡ from → moved from to seat_of n ≡ to
moved-here from to n seat_of is = rw (eq-eqb (seat_of n) from is) refl

pub moved-else : (from to n : ℕ) (seat_of : ℕ → ℕ) → seat_of n ≢ from → moved from to seat_of n ≡ seat_of n
moved-else from to n seat_of apart = rw (ne_eqb (seat_of n) from apart) refl

pub moved-to : (from to n : ℕ) (seat_of : ℕ → ℕ) → seat_of n ≡ to → moved from to seat_of n ≡ to
moved-to from to n seat_of is = dite (ℕ_discrete (seat_of n) from) (λ h. moved-here from to n seat_of h) (λ h. moved-else from to n seat_of h ∙ is)
