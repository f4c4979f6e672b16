-- The map of a stub, from one change to the next.
use Rattle.std.proofs.Common.{◌≡◌, ◌<◌, ◌≤◌, ◌+◌, ℕ, zero, suc, Bool, true, false, List, [], ◌∷◌, ◌++◌, Some, None, length, get_or, set, position, nat_lt, inl, inr, refl, sym, ap, ◌∙◌, arith}
use Rattle.std.specs.List.{position_or_len}
use Rattle.std.proofs.lemmas.Bool.{cases_Bool}
use Rattle.std.proofs.lemmas.Bool.Decides.{Decides-ltb}
use Rattle.stub_server.specs.declared.map.Entry.{Entry}
use Rattle.stub_server.specs.Map.{Map, is_of, with_value}
-- a lemma that an attribute names has a name without a dash
pub use Rattle.list_lemmas.proofs.CallerLemmas.{count_by-map as count_by_map}

pub position-place : (p : Entry → Bool) (m : Map) (i : ℕ) → position p m ≡ Some i → (i ≡ position_or_len p m) × (i < length m)
position-place p m i e =
    elim (cases_Bool (nat_lt (position_or_len p m) (length m))) [
      | inl f ↦ let g : Some (position_or_len p m) ≡ Some i = rw f at e in let is : position_or_len p m ≡ i = cc in (sym is, omega (arith, is, (Decides-ltb (position_or_len p m) (length m)).0 f))
      | inr f ↦ let g : None ≡ Some i = rw f at e in absurd cc
    ]

pub replaced : (key value : List ℕ) (m : Map) (i : ℕ) (e : Entry) → i ≡ position_or_len (is_of key) m → i < length m → e ≡ get_or m i e → set m i (record { key = e.key; value = value }) ≡ with_value key value m
replaced key value [] i e p l h = absurd (omega (arith, l))
replaced key value (x ∷ m) zero e p l h =
    elim (cases_Bool (is_of key x)) [
      | inl f ↦ rw f (ap (λ (z : Entry). record { key = z.key; value = value } ∷ m) h)
      | inr f ↦ let q : 0 ≡ 1 + position_or_len (is_of key) m = rw f at p in absurd (omega (arith, q))
    ]
replaced key value (x ∷ m) (suc i) e p l h =
    elim (cases_Bool (is_of key x)) [
      | inl f ↦ let q : suc i ≡ 0 = rw f at p in absurd (omega (arith, q))
      | inr f ↦ let q : suc i ≡ 1 + position_or_len (is_of key) m = rw f at p in rw f (ap (λ z. x ∷ z) (replaced key value m i e (omega (arith, q)) (omega (arith, l)) h))
    ]

no_place : (key value : List ℕ) (m : Map) → length m ≤ position_or_len (is_of key) m → m ++ record { key = key; value = value } ∷ [] ≡ with_value key value m
no_place key value [] l = refl
no_place key value (x ∷ m) l =
    elim (cases_Bool (is_of key x)) [
      | inl f ↦ let q : suc (length m) ≤ 0 = rw f at l in absurd (omega (arith, q))
      | inr f ↦ let q : suc (length m) ≤ 1 + position_or_len (is_of key) m = rw f at l in rw f (ap (λ z. x ∷ z) (no_place key value m (omega (arith, q))))
    ]

pub added : (key value : List ℕ) (m : Map) → position (is_of key) m ≡ None → m ++ record { key = key; value = value } ∷ [] ≡ with_value key value m
added key value m e =
    elim (cases_Bool (nat_lt (position_or_len (is_of key) m) (length m))) [
      | inl f ↦ let g : Some (position_or_len (is_of key) m) ≡ None = rw f at e in absurd cc
      | inr f ↦ no_place key value m (let n : position_or_len (is_of key) m < length m → ⊥ = λ l. let t = (Decides-ltb (position_or_len (is_of key) m) (length m)).1 l in let u : false ≡ true = sym f ∙ t in cc in omega (arith, n))
    ]
