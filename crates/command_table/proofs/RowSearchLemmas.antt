-- A search that goes from one element to the next.
use Rattle.std.proofs.Common.{◌≡◌, ◌<◌, ◌+◌, ◌↔◌, ℕ, add-one, List, [], ◌==◌, eq-eqb, Bool, true, false, IsTrue, Option, Some, find, filter, map, length, get_or, ◌∷◌, drop, drop-cons, inl, inr, refl, sym, ap, ◌∙◌}
use Rattle.std.specs.Str.{str_to_ascii_lowercase}
use Rattle.std.specs.Char.{to_ascii_lowercase}
use Rattle.std.specs.Option.{option_map}
use Rattle.std.proofs.lemmas.List.{length-map}
use Rattle.std.proofs.lemmas.Slice.Eq.{bytes_eq-Decides}
use Rattle.std.proofs.lemmas.Bool.{cases_Bool}
use Rattle.command_table.specs.Table.{is_name, row_in, one_key_row}

module _ {X Y : Type 0} (p : Y → Bool) (f : X → Y) (xs : List X) (i : ℕ) (d : X) (inside : i < length xs) where
  rest_is : drop i xs ≡ get_or xs i d ∷ drop (i + 1) xs
  rest_is = rw add-one (drop-cons xs i d inside)

  -- the element at this place passes
  pub find-here : p (f (get_or xs i d)) ≡ true → find p (map f (drop i xs)) ≡ Some (f (get_or xs i d))
  find-here h = rw (rest_is, h) refl

  -- it doesn't
  pub find-further : p (f (get_or xs i d)) ≡ false → find p (map f (drop i xs)) ≡ find p (map f (drop (i + 1) xs))
  find-further h = rw (rest_is, h) refl

-- a comparison without case is the test of names
pub is_name-compared : (b : Bool) (name known bytes : List ℕ) → bytes ≡ known → (IsTrue b ↔ (str_to_ascii_lowercase name ≡ str_to_ascii_lowercase bytes)) → is_name name known ≡ b
is_name-compared true name known bytes e h =
    (bytes_eq-Decides (str_to_ascii_lowercase name) (str_to_ascii_lowercase known)).1 (h.0 refl ∙ ap str_to_ascii_lowercase e)
is_name-compared false name known bytes e h =
    elim (cases_Bool (is_name name known)) [
      | inl f ↦ let g : false ≡ true = h.1 ((bytes_eq-Decides (str_to_ascii_lowercase name) (str_to_ascii_lowercase known)).0 f ∙ ap str_to_ascii_lowercase (sym e)) in absurd cc
      | inr f ↦ f
    ]

-- a name is searched among those of its length
pub find-of_length : (name : List ℕ) (ns : List (List ℕ)) → find (is_name name) (filter (λ n. length n == length name) ns) ≡ find (is_name name) ns
find-of_length name [] = refl
find-of_length name (n ∷ ns) =
    elim (cases_Bool (is_name name n)) [
      | inl f ↦
          let same : length name ≡ length n = sym (length-map name to_ascii_lowercase) ∙ ap length ((bytes_eq-Decides (str_to_ascii_lowercase name) (str_to_ascii_lowercase n)).0 f) ∙ length-map n to_ascii_lowercase in
          let long : (length n == length name) ≡ true = eq-eqb (length n) (length name) (sym same) in rw (long, f) refl
      | inr f ↦
          elim (cases_Bool (length n == length name)) [
            | inl g ↦ rw (g, f) (find-of_length name ns)
            | inr g ↦ rw (g, f) (find-of_length name ns)
          ]
    ]

-- a search among what is made of elements
pub find-made : {X Y : Type 0} (p : Y → Bool) (f : X → Y) (xs : List X) → find p (map f xs) ≡ option_map f (find (λ x. p (f x)) xs)
find-made p f [] = refl
find-made p f (x ∷ xs) =
    elim (cases_Bool (p (f x))) [ inl e ↦ rw e refl | inr e ↦ rw e (find-made p f xs) ]

-- what a search among the names of one length gives is what one among all rows of those names does
pub row_in-of_length : (name : List ℕ) (ns : List (List ℕ)) (o : Option (List ℕ)) → o ≡ find (is_name name) (filter (λ n. length n == length name) ns) → option_map one_key_row o ≡ row_in (map one_key_row ns) name
row_in-of_length name ns o e =
    ap (option_map one_key_row) (e ∙ find-of_length name ns) ∙ sym (find-made (λ r. is_name name r.name) one_key_row ns)
