-- Sets of signals, as numbers.
use Rattle.std.specs.Prelude.{◌≡◌, ◌-◌, ℕ}
use Rattle.std.specs.Int.{bit_at}

-- the number of SIGINT
abbrev pub sigint : ℕ
sigint = 2

-- the number of SIGTERM
abbrev pub sigterm : ℕ
sigterm = 15

-- signal n is in the set: bit n - 1 is set
abbrev pub IsIn : ℕ → ℕ → Type 0
IsIn signals n = bit_at signals (n - 1) ≡ 1
