-- The map of a stub: its keys in the order in which they came, each with its value.
use Rattle.std.specs.Prelude.{ℕ, Bool, true, not, ◌&&◌, List, [], ◌∷◌, Option, find, filter, count_by, if◌then◌else◌}
use Rattle.std.specs.List.{list_any}
use Rattle.std.specs.Option.{option_map}
use Rattle.std.specs.Str.{bytes_eq}
use Rattle.stub_server.specs.declared.map.Entry.{Entry}

-- the entries, each with its key and value
abbrev pub Map : Type 0
Map = List Entry

-- whether the entry is that of this key
abbrev pub is_of : List ℕ → Entry → Bool
is_of key e = bytes_eq e.key key

-- the value at the key
abbrev pub value_at : List ℕ → Map → Option (List ℕ)
value_at key m = option_map (λ e. e.value) (find (is_of key) m)

-- whether a key has a value
abbrev pub is_key : Map → List ℕ → Bool
is_key m key = list_any (is_of key) m

-- the map with this value at the key
abbrev pub with_value : List ℕ → List ℕ → Map → Map
with_value key value [] = record { key = key; value = value } ∷ []
with_value key value (e ∷ m) = if is_of key e then record e { value = value } ∷ m else e ∷ with_value key value m

-- whether one of these words is the key
abbrev pub names_key : List (List ℕ) → List ℕ → Bool
names_key words key = list_any (λ word. bytes_eq word key) words

-- the map without these keys
abbrev pub map_without : List (List ℕ) → Map → Map
map_without keys m = filter (λ e. not (names_key keys e.key)) m

-- how many keys of the map are among these
abbrev pub count_among : List (List ℕ) → Map → ℕ
count_among keys m = count_by (λ e. names_key keys e.key) m

-- how many of these words are keys of the map, repeats counted
abbrev pub count_keys : Map → List (List ℕ) → ℕ
count_keys m words = count_by (is_key m) words

-- no two entries have the same key
abbrev pub has_distinct_keys : Map → Bool
has_distinct_keys [] = true
has_distinct_keys (e ∷ m) = not (is_key m e.key) && has_distinct_keys m
