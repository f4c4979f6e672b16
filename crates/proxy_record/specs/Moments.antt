-- Moments, as a line has them.
use Rattle.std.specs.Prelude.{ℕ, List, codes, decimal, Option, Some, None}

-- a moment, or null where it isn't known
abbrev pub moment : Option ℕ → List ℕ
moment None = codes "null"
moment (Some t) = decimal t
