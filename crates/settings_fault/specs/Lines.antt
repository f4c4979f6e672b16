-- What is told of a settings file.
use Rattle.std.specs.Prelude.{◌≡◌, ◌==◌, ◌++◌, ◌&&◌, ℕ, Bool, true, not, List, nat_le, string_bytes}
use Rattle.std.specs.List.{list_all}
use Rattle.settings_fault.specs.declared.explanation.Explanation.{Explanation}
use Rattle.settings_fault.specs.Places.{IsPlaceIn}

-- whether the byte is part of what a terminal shows: no control character of ASCII
abbrev pub is_printable : ℕ → Bool
is_printable byte = nat_le 32 byte && not (byte == 127)

-- no byte is a control character, so that they are one line
abbrev pub ArePrintable : List ℕ → Type 0
ArePrintable bytes = list_all is_printable bytes ≡ true

-- the text begins with the key, and one line follows
pub record IsAbout (key text : List ℕ) : Type 0 where
  pub rest : List ℕ
  pub begins : text ≡ key ++ rest
  pub printable : ArePrintable rest

-- the explanation has a place in the file, and a text about the key
pub record Explains (file key : List ℕ) (told : Explanation) : Type 0 where
  pub place : IsPlaceIn file told.place
  pub about : IsAbout key (string_bytes told.text)
