-- What a moment says.
use Rattle.std.specs.Prelude.{◌≡◌, ◌≤◌, ◌+◌, ℕ, Option, Some}

-- so many milliseconds have passed by now since a moment, where there is one
abbrev pub HavePassed : Option ℕ → ℕ → ℕ → Type 0
HavePassed since span now = (t : ℕ) × (since ≡ Some t) × (t + span ≤ now)
