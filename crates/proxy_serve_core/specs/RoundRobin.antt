-- Who takes turns.
use Rattle.std.specs.Prelude.{ℕ}

-- whose turn it is, and how many there are
pub record RoundRobinState : Type 0 where
  pub next : ℕ
  pub count : ℕ
