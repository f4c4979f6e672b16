-- Laws of the stub's map and numbers, for whoever stands on them.
use Rattle.std.specs.Prelude.{◌≡◌, ◌↔◌, ℕ, ℤ, true, List, Some, None, if◌then◌else◌}
use Rattle.std.specs.Fmt.{signed_decimal}
use Rattle.std.specs.Str.{bytes_eq}
use Rattle.resp_core.specs.Tree.{Tree}
use Rattle.stub_server.specs.Map.{Map, value_at, with_value, map_without, names_key, has_distinct_keys}
use Rattle.stub_server.specs.Number.{number_in}
use Rattle.resp_core.specs.ValueLimits.{is_long}
use Rattle.stub_server.specs.Table.{map_after}

-- After a value was set at a key it is that key's value, and all other keys have the values that they had.
abbrev pub SetKeyHasItsValue : Type 0
SetKeyHasItsValue = (key value other : List ℕ) (m : Map) → value_at other (with_value key value m) ≡ (if bytes_eq key other then Some value else value_at other m)

-- After keys were taken out they have no value, and all other keys have the values that they had.
abbrev pub RemovedKeyHasNoValue : Type 0
RemovedKeyHasNoValue = (keys : List (List ℕ)) (other : List ℕ) (m : Map) → value_at other (map_without keys m) ≡ (if names_key keys other then None else value_at other m)

-- Each key stands once in a map, before a request and after it.
abbrev pub KeysStayDistinct : Type 0
KeysStayDistinct = (m : Map) (t : Tree) → has_distinct_keys m ≡ true → has_distinct_keys (map_after m t) ≡ true

-- The bytes in which a number is found are the decimal spelling of that number and of no other, in the signed 64-bit range.
abbrev pub NumberHasOneSpelling : Type 0
NumberHasOneSpelling = (bytes : List ℕ) (n : ℤ) → (number_in bytes ≡ Some n) ↔ ((bytes ≡ signed_decimal n) × (is_long n ≡ true))
