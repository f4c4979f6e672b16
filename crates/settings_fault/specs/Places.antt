-- Where a byte stands in a text, as an editor counts.
use Rattle.std.specs.Prelude.{◌≡◌, ◌==◌, ◌≤◌, ◌+◌, ◌||◌, ℕ, Bool, List, nat_le, nat_lt, count_by, take, length}
use Rattle.std.specs.List.{after_last}
use Rattle.settings_fault.specs.declared.place.Place.{Place}

-- whether the byte breaks a line
abbrev pub is_line_break : ℕ → Bool
is_line_break byte = byte == 10

-- whether a character of UTF-8 begins with the byte: all others are 10xxxxxx
abbrev pub begins_character : ℕ → Bool
begins_character byte = nat_lt byte 128 || nat_le 192 byte

-- the line of the byte at this offset: 1, and one more for each line break before it
abbrev pub line_of : List ℕ → ℕ → ℕ
line_of text offset = 1 + count_by is_line_break (take offset text)

-- its column: 1, and one more for each character before it in its line
abbrev pub column_of : List ℕ → ℕ → ℕ
column_of text offset = 1 + count_by begins_character (after_last is_line_break (take offset text))

-- the place is that of a byte of the text, or of its end
pub record IsPlaceIn (text : List ℕ) (place : Place) : Type 0 where
  pub offset : ℕ
  pub inside : offset ≤ length text
  pub line : place.line ≡ line_of text offset
  pub column : place.column ≡ column_of text offset
