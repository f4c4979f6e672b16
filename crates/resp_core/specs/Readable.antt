-- What a reader can give.
use Rattle.std.specs.Prelude.{◌≡◌, ◌≤◌, ℕ, true, length}
use Rattle.resp_core.specs.Tree.{Tree, is_plain_tree}
use Rattle.resp_core.specs.Text.{text}
use Rattle.resp_core.specs.Grammar.{max_text, max_depth}
use Rattle.resp_core.specs.ValueLimits.{IsWithin}

-- what a reader can give: the value keeps the limits, with lists of at most this many members, it is plain, and its one spelling
-- is no longer than a value's text may be
pub record IsReadable (most : ℕ) (t : Tree) : Type 0 where
  pub within : IsWithin most max_depth t
  pub plain : is_plain_tree t ≡ true
  pub few : length (text t) ≤ max_text
