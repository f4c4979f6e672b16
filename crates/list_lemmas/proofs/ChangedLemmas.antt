-- A list with one item changed.
use Rattle.std.proofs.Common.{◌≡◌, ◌≤◌, ℕ, zero, suc, ◌-◌, List, [], ◌∷◌, ◌++◌, map, drop, length, get_or, slice_set, refl, ap, ◌∙◌, arith}
use Rattle.list_lemmas.specs.Lists.{changed_at}

-- a write of what the item changes to
pub slice_set-changed : {X : Type 0} (change : X → X) (place : ℕ) (xs : List X) (d : X) → slice_set xs place (change (get_or xs place d)) ≡ changed_at change place xs
slice_set-changed change place [] d = refl
slice_set-changed change zero (x ∷ xs) d = refl
slice_set-changed change (suc place) (x ∷ xs) d = ap (λ ys. x ∷ ys) (slice_set-changed change place xs d)

-- a write of one item, whatever stood there
pub slice_set-constant : {X : Type 0} (y : X) (place : ℕ) (xs : List X) → slice_set xs place y ≡ changed_at (λ x. y) place xs
slice_set-constant y place [] = refl
slice_set-constant y zero (x ∷ xs) = refl
slice_set-constant y (suc place) (x ∷ xs) = ap (λ ys. x ∷ ys) (slice_set-constant y place xs)

-- where there is no such item, nothing changes
pub changed_at-past : {X : Type 0} (change : X → X) (place : ℕ) (xs : List X) → length xs ≤ place → changed_at change place xs ≡ xs
changed_at-past change place [] l = refl
changed_at-past change zero (x ∷ xs) l = absurd (omega (arith, l))
changed_at-past change (suc place) (x ∷ xs) l = ap (λ ys. x ∷ ys) (changed_at-past change place xs (omega (arith, l)))

-- the item behind a list
pub changed_at-append : {X : Type 0} (change : X → X) (xs : List X) (y : X) (ys : List X) → changed_at change (length xs) (xs ++ y ∷ ys) ≡ xs ++ change y ∷ ys
changed_at-append change [] y ys = refl
changed_at-append change (x ∷ xs) y ys = ap (λ zs. x ∷ zs) (changed_at-append change xs y ys)

-- a view sees a write as a change of what it sees there
pub map-slice_set : {X Y : Type 0} (view : X → Y) (seen : Y → Y) (place : ℕ) (xs : List X) (y d : X) → view y ≡ seen (view (get_or xs place d))
    → map view (slice_set xs place y) ≡ changed_at seen place (map view xs)
map-slice_set view seen place [] y d e = refl
map-slice_set view seen zero (x ∷ xs) y d e = ap (λ z. z ∷ map view xs) e
map-slice_set view seen (suc place) (x ∷ xs) y d e = ap (λ zs. view x ∷ zs) (map-slice_set view seen place xs y d e)

-- a write that a view doesn't see
pub map-slice_set-same : {X Y : Type 0} (view : X → Y) (place : ℕ) (xs : List X) (y d : X) → view y ≡ view (get_or xs place d) → map view (slice_set xs place y) ≡ map view xs
map-slice_set-same view place [] y d e = refl
map-slice_set-same view zero (x ∷ xs) y d e = ap (λ z. z ∷ map view xs) e
map-slice_set-same view (suc place) (x ∷ xs) y d e = ap (λ zs. view x ∷ zs) (map-slice_set-same view place xs y d e)

-- a change behind what is dropped
pub changed_at-drop : {X : Type 0} (change : X → X) (n k : ℕ) (xs : List X) → n ≤ k → changed_at change (k - n) (drop n xs) ≡ drop n (changed_at change k xs)
changed_at-drop change zero k xs l = ap (λ z. changed_at change z xs) (omega arith)
changed_at-drop change (suc n) k [] l = refl
changed_at-drop change (suc n) zero (x ∷ xs) l = absurd (omega (arith, l))
changed_at-drop change (suc n) (suc k) (x ∷ xs) l = ap (λ z. changed_at change z (drop n xs)) (omega arith) ∙ changed_at-drop change n k xs (omega (arith, l))
