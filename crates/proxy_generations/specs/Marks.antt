-- How full the journal of a generation is, by its marks.
use Rattle.std.specs.Prelude.{◌≡◌, ◌≤◌, ◌*◌, ◌/◌, ◌⊎◌, ℕ, max, true}
use Rattle.proxy_generations.specs.declared.marks.Look.{Look}
use Rattle.proxy_generations.specs.declared.marks.Marks.{Marks}

-- a journal of so many steps and bytes has reached either mark
abbrev pub AreReached : Marks → ℕ → ℕ → Type 0
AreReached marks steps bytes = (marks.steps ≤ steps) ⊎ (marks.bytes ≤ bytes)

-- it has reached three quarters of either mark, rounded down
abbrev pub AreNear : Marks → ℕ → ℕ → Type 0
AreNear marks steps bytes = (marks.steps * 3 / 4 ≤ steps) ⊎ (marks.bytes * 3 / 4 ≤ bytes)

-- the journal that was looked at has reached the marks by its steps, made or owed, or its bytes, or accepts no further command
abbrev pub IsFull : Marks → Look → Type 0
IsFull marks look = AreReached marks (max look.made look.spent) look.bytes ⊎ (look.is_full ≡ true)

-- it is near the marks
abbrev pub IsNear : Marks → Look → Type 0
IsNear marks look = AreNear marks (max look.made look.spent) look.bytes
