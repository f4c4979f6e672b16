-- Lists that grow at their end.
use Rattle.std.proofs.Common.{◌≡◌, Bool, true, false, cond, List, [], ◌∷◌, ◌++◌, length, Option, Some, ◌≤◌, inl, inr, arith}
use Rattle.std.proofs.lemmas.Bool.{cases_Bool}
use Rattle.proxy_history.specs.History.{History, times, Step}
use Rattle.proxy_history.specs.declared.event.Event.{Event}
use Rattle.std.specs.List.{find, zip}

cond_goes : {X : Type 0} (b : Bool) (x r : X) (more grown : Option X) → (more ≡ Some r → grown ≡ Some r)
    → cond b (Some x) more ≡ Some r → cond b (Some x) grown ≡ Some r
cond_goes true x r more grown f e = e
cond_goes false x r more grown f e = f e

-- a pair that is found in two lists side by side is found when both have grown
pub find_zip_stays : {A B : Type 0} (t : A × B → Bool) (xs xs' : List A) (ys ys' : List B) (r : A × B)
    → find t (zip xs ys) ≡ Some r → find t (zip (xs ++ xs') (ys ++ ys')) ≡ Some r
find_zip_stays t [] xs' ys ys' r e = absurd cc
find_zip_stays t (x ∷ xs) xs' [] ys' r e = absurd cc
find_zip_stays t (x ∷ xs) xs' (y ∷ ys) ys' r e = cond_goes (t (x, y)) (x, y) r _ _ (find_zip_stays t xs xs' ys ys' r) e

-- no more steps are counted than there are
pub times-length : (is : Event → Bool) (H : History) → times is H ≤ length H
times-length is [] = omega arith
times-length is (s ∷ H) = elim (cases_Bool (is s.event)) [ inl t ↦ rw (t) (omega (arith, times-length is H)) | inr f ↦ rw (f) (omega (arith, times-length is H)) ]

-- no count falls
pub times_grows : (is : Event → Bool) (s : Step) (H : History) → times is H ≤ times is (s ∷ H)
times_grows is s H = elim (cases_Bool (is s.event)) [ inl t ↦ rw (t) (omega arith) | inr f ↦ rw (f) (omega arith) ]
