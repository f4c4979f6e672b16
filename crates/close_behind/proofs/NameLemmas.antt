-- A name among names.
use Rattle.std.proofs.Common.{◌≡◌, ◌<◌, ◌+◌, ◌↔◌, ◌||◌, ℕ, add-one, List, Bool, true, false, IsTrue, length, get_or, ◌∷◌, drop, drop-cons, inl, inr, refl, sym, ap, ◌∙◌}
use Rattle.std.specs.List.{list_any}
use Rattle.std.specs.Str.{str_to_ascii_lowercase}
use Rattle.std.proofs.lemmas.Slice.Eq.{bytes_eq-Decides}
use Rattle.std.proofs.lemmas.Bool.{cases_Bool}
use Rattle.command_table.specs.Table.{is_name}

pub compared : (b : Bool) (name known bytes : List ℕ) → bytes ≡ known → (IsTrue b ↔ (str_to_ascii_lowercase name ≡ str_to_ascii_lowercase bytes)) → is_name name known ≡ b
compared true name known bytes e h = (bytes_eq-Decides (str_to_ascii_lowercase name) (str_to_ascii_lowercase known)).1 (h.0 refl ∙ ap str_to_ascii_lowercase e)
compared false name known bytes e h =
    elim (cases_Bool (is_name name known)) [
      | inl f ↦ let g : false ≡ true = h.1 ((bytes_eq-Decides (str_to_ascii_lowercase name) (str_to_ascii_lowercase known)).0 f ∙ ap str_to_ascii_lowercase (sym e)) in absurd cc
      | inr f ↦ f
    ]

module _ {X : Type 0} (p : X → Bool) (xs : List X) (i : ℕ) (d : X) (inside : i < length xs) where
  rest_is : drop i xs ≡ get_or xs i d ∷ drop (i + 1) xs
  rest_is = rw add-one (drop-cons xs i d inside)

  pub any-here : p (get_or xs i d) ≡ true → list_any p (drop i xs) ≡ true
  any-here h = rw (rest_is, h) refl

  pub any-further : p (get_or xs i d) ≡ false → list_any p (drop (i + 1) xs) ≡ list_any p (drop i xs)
  any-further h = rw (rest_is, h) refl
