-- Which clients a worker's round looks at.
use Rattle.std.specs.Prelude.{ℕ, List}

-- the keys of the clients that are ready, and of those that wait for replies
pub record ReadyClientsState : Type 0 where
  pub ready : List ℕ
  pub awaiting : List ℕ
