-- The bytes that a read or a write moved.
use Rattle.std.specs.Prelude.{ℕ, List, [], Result, Ok, Err, take}
use Rattle.std.specs.declared.io.Error.{Error}

-- by the answer of a call with these bytes: the first n at Ok n, and none at an error
abbrev pub moved_bytes : Result ℕ Error → List ℕ → List ℕ
moved_bytes (Ok n) bytes = take n bytes
moved_bytes (Err e) bytes = []
