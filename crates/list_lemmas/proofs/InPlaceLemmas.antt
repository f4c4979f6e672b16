-- A list that a loop rewrites in place: up to a place it is new, and from there on it is as it was.
use Rattle.std.proofs.Common.{◌≡◌, ◌≤◌, ℕ, zero, suc, ◌+◌, ◌<◌, List, [], ◌∷◌, ◌++◌, length, map, drop, set, get_or, refl, sym, ap, ◌∙◌, arith, add-one, append_assoc}
use Rattle.std.specs.List.{range_with_len}
use Rattle.std.proofs.lemmas.List.{drop_more, set_at, get_or_at}
use Rattle.std.proofs.lemmas.List.FromFn.{map-range_with_len_more, length-map-range_with_len}
use Rattle.list_lemmas.specs.Lists.{changed_at, mapped_to, made_to}

-- BY A FUNCTION OF THE ITEM

-- the next item is as it was
pub get_or-mapped_to : {X : Type 0} (f : X → X) (xs : List X) (i : ℕ) (d : X) → get_or (mapped_to f i xs) i d ≡ get_or xs i d
get_or-mapped_to f [] zero d = refl
get_or-mapped_to f [] (suc i) d = refl
get_or-mapped_to f (x ∷ xs) zero d = refl
get_or-mapped_to f (x ∷ xs) (suc i) d = get_or-mapped_to f xs i d

set-mapped_to_suc : {X : Type 0} (f : X → X) (xs : List X) (i : ℕ) (d : X) → i < length xs → set (mapped_to f i xs) i (f (get_or xs i d)) ≡ mapped_to f (suc i) xs
set-mapped_to_suc f [] i d l = absurd (omega arith)
set-mapped_to_suc f (x ∷ xs) zero d l = refl
set-mapped_to_suc f (x ∷ xs) (suc i) d l = let rest = set-mapped_to_suc f xs i d (omega arith) in ap (λ ys. f x ∷ ys) rest

-- a write of the next item
pub set-mapped_to : {X : Type 0} (f : X → X) (xs : List X) (i : ℕ) (d : X) → i < length xs → set (mapped_to f i xs) i (f (get_or xs i d)) ≡ mapped_to f (i + 1) xs
set-mapped_to f xs i d l = rw add-one (set-mapped_to_suc f xs i d l)

changed_at-mapped_to_suc : {X : Type 0} (change : X → X) (n : ℕ) (xs : List X) → changed_at change n (mapped_to change n xs) ≡ mapped_to change (suc n) xs
changed_at-mapped_to_suc change zero [] = refl
changed_at-mapped_to_suc change zero (x ∷ xs) = refl
changed_at-mapped_to_suc change (suc n) [] = refl
changed_at-mapped_to_suc change (suc n) (x ∷ xs) = ap (λ ys. change x ∷ ys) (changed_at-mapped_to_suc change n xs)

-- a change of the next item, where there is one
pub changed_at-mapped_to : {X : Type 0} (change : X → X) (n : ℕ) (xs : List X) → changed_at change n (mapped_to change n xs) ≡ mapped_to change (n + 1) xs
changed_at-mapped_to change n xs = changed_at-mapped_to_suc change n xs ∙ ap (λ k. mapped_to change k xs) (sym (add-one n))

-- in the end all items are new
pub mapped_to-all : {X : Type 0} (change : X → X) (n : ℕ) (xs : List X) → length xs ≤ n → mapped_to change n xs ≡ map change xs
mapped_to-all change zero [] l = refl
mapped_to-all change (suc n) [] l = refl
mapped_to-all change zero (x ∷ xs) l = absurd (omega (arith, l))
mapped_to-all change (suc n) (x ∷ xs) l = ap (λ ys. change x ∷ ys) (mapped_to-all change n xs (omega (arith, l)))

-- BY A FUNCTION OF THE PLACE

made_here : {X : Type 0} (g : ℕ → X) (xs : List X) (i : ℕ) (d : X) → i < length xs → made_to g i xs ≡ map g (range_with_len 0 i) ++ (get_or xs i d ∷ drop (i + 1) xs)
made_here g xs i d l = ap (λ ys. map g (range_with_len 0 i) ++ ys) (drop_more xs i d l)

made_more : {X : Type 0} (g : ℕ → X) (xs : List X) (i : ℕ) → made_to g (i + 1) xs ≡ map g (range_with_len 0 i) ++ (g i ∷ drop (i + 1) xs)
made_more g xs i =
    ap (λ ys. ys ++ drop (i + 1) xs) (map-range_with_len_more g 0 i i (omega arith)) ∙ append_assoc (map g (range_with_len 0 i)) (g i ∷ []) (drop (i + 1) xs)

-- the next item is as it was
pub get_or-made_to : {X : Type 0} (g : ℕ → X) (xs : List X) (i : ℕ) (d : X) → i < length xs → get_or (made_to g i xs) i d ≡ get_or xs i d
get_or-made_to g xs i d l =
    ap (λ ys. get_or ys i d) (made_here g xs i d l) ∙ get_or_at (map g (range_with_len 0 i)) (get_or xs i d) (drop (i + 1) xs) d i (length-map-range_with_len g 0 i)

-- a write of the next item
pub set-made_to : {X : Type 0} (g : ℕ → X) (xs : List X) (i : ℕ) (d : X) → i < length xs → set (made_to g i xs) i (g i) ≡ made_to g (i + 1) xs
set-made_to g xs i d l =
    ap (λ ys. set ys i (g i)) (made_here g xs i d l)
    ∙ set_at (map g (range_with_len 0 i)) (get_or xs i d) (drop (i + 1) xs) (g i) i (length-map-range_with_len g 0 i) ∙ sym (made_more g xs i)

-- the next item is made already
pub made_to-same : {X : Type 0} (g : ℕ → X) (xs : List X) (i : ℕ) (d : X) → i < length xs → g i ≡ get_or xs i d → made_to g i xs ≡ made_to g (i + 1) xs
made_to-same g xs i d l e =
    made_here g xs i d l ∙ ap (λ y. map g (range_with_len 0 i) ++ (y ∷ drop (i + 1) xs)) (sym e) ∙ sym (made_more g xs i)
