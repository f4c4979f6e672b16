-- Bytes of a line that need not be looked at again.
use Rattle.std.specs.Prelude.{◌≡◌, ℕ, ◌≤◌, List, [], length, take, ◌++◌}
use Rattle.resp_core.specs.Grammar.{max_line}
use Rattle.resp_core.specs.Reading.{text_at}

-- none of the first so many bytes ends the line, or is refused
pub record IsSeen (seen : ℕ) (b : List ℕ) : Type 0 where
  pub inside : seen ≤ length b
  pub few : seen ≤ max_line
  pub same : (y : List ℕ) → text_at (take seen b) y ≡ text_at [] (take seen b ++ y)
