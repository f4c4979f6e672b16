-- Laws of the table, for whoever stands on it.
use Rattle.std.specs.Prelude.{◌≡◌, ◌<◌, ℕ, List, Some, All, Contains, length, slice_index_or}
use Rattle.std.specs.Str.{str_to_ascii_lowercase}
use Rattle.command_table.specs.Table.{Row, rows, row_named}

-- No two rows have the same name.
abbrev pub NamesAreDistinct : Type 0
NamesAreDistinct = (j k : ℕ) (r : Row) → j < length rows → k < length rows → (slice_index_or rows j r).name ≡ (slice_index_or rows k r).name → j ≡ k

-- Each name is in lower case.
abbrev pub NamesAreLowerCase : Type 0
NamesAreLowerCase = All (λ r. str_to_ascii_lowercase r.name ≡ r.name) rows

-- Each row is found by its name, in whichever case.
abbrev pub EachRowIsFound : Type 0
EachRowIsFound = (r : Row) (name : List ℕ) → Contains rows r → str_to_ascii_lowercase name ≡ r.name → row_named name ≡ Some r

-- What is found stands in the table, and has that name.
abbrev pub FoundStandsInTable : Type 0
FoundStandsInTable = (r : Row) (name : List ℕ) → row_named name ≡ Some r → Contains rows r × (str_to_ascii_lowercase name ≡ r.name)
