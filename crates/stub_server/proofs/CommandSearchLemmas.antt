-- The first command of a name, from one row to the next.
use Rattle.std.proofs.Common.{◌≡◌, ◌<◌, ◌+◌, ℕ, add-one, List, [], true, Some, map, length, get_or, inl, inr, ◌∷◌, drop, drop-cons, refl}
use Rattle.std.specs.Str.{str_to_ascii_lowercase, bytes_eq}
use Rattle.std.proofs.lemmas.Slice.Eq.{bytes_eq-Decides}
use Rattle.std.proofs.lemmas.Bool.{cases_Bool}
use Rattle.stub_server.specs.declared.command.NamedCommand.{NamedCommand}
use Rattle.stub_server.specs.declared.command.Command.TheVariants.{Get}
use Rattle.stub_server.specs.Command.{command_in}
use Rattle.stub_server.specs.Row.{row_of}

-- a command of no name, for a place past the end
abbrev pub unnamed : NamedCommand
unnamed = record { command = Get; name = record { ref_ptr = (0, 0); now = [] } }

module _ (named : List NamedCommand) (name : List ℕ) (i : ℕ) (n : NamedCommand) (inside : i < length named) where
  rest_is : drop i named ≡ get_or named i n ∷ drop (i + 1) named
  rest_is = rw add-one (drop-cons named i n inside)

  abbrev HasName : Type 0
  HasName = str_to_ascii_lowercase name ≡ str_to_ascii_lowercase (get_or named i n).name.now

  test_is : (bytes_eq (str_to_ascii_lowercase name) (str_to_ascii_lowercase (get_or named i n).name.now) ≡ true → HasName) × (HasName → bytes_eq (str_to_ascii_lowercase name) (str_to_ascii_lowercase (get_or named i n).name.now) ≡ true)
  test_is = bytes_eq-Decides (str_to_ascii_lowercase name) (str_to_ascii_lowercase (get_or named i n).name.now)

  pub first_with_name : str_to_ascii_lowercase name ≡ str_to_ascii_lowercase (get_or named i n).name.now → command_in (map row_of (drop i named)) name ≡ Some (get_or named i n).command
  first_with_name h = rw (rest_is, test_is.1 h) refl

  pub none_with_name : (str_to_ascii_lowercase name ≡ str_to_ascii_lowercase (get_or named i n).name.now → ⊥) → command_in (map row_of (drop i named)) name ≡ command_in (map row_of (drop (i + 1) named)) name
  none_with_name h =
      elim (cases_Bool (bytes_eq (str_to_ascii_lowercase name) (str_to_ascii_lowercase (get_or named i n).name.now))) [
        | inl f ↦ absurd (h (test_is.0 f))
        | inr f ↦ rw (rest_is, f) refl
      ]
