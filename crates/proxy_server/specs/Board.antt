-- What is shown on the board.
use Rattle.std.specs.Prelude.{ℕ, Some, List, Contains}
use Rattle.proxy_generations.specs.Events.{Event, draining}
use Rattle.proxy_generations.specs.Phase.{IsTask}
use Rattle.proxy_generations.specs.declared.phase.Phase.{Phase}
use Rattle.proxy_server.specs.Words.{AreShown, IsWord}

-- The words show each generation that drains, with its task, and no other.
pub record Shows {H : Type 0} (words : List ℕ) (es : List (Event H)) : Type 0 where
  pub only : (n : ℕ) (task : Phase) → AreShown words n task → IsTask (Some task) es n
  pub all : (n : ℕ) → Contains (draining es) n → (task : Phase) × AreShown words n task

-- A word comes in the place of one before. Where that shows a generation that still drains, this shows it with its task of now;
-- it shows no other.
pub record IsAnew {H : Type 0} (old : ℕ) (es : List (Event H)) (new : ℕ) : Type 0 where
  pub drains : (n : ℕ) (before task : Phase) → IsWord old n before → IsTask (Some task) es n → IsWord new n task
  pub shows : (n : ℕ) (task : Phase) → IsWord new n task → IsTask (Some task) es n
