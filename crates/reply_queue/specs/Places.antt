-- How a command keeps the values of its parts.
use Rattle.std.specs.Prelude.{◌≡◌, ℕ, Bool, not, if◌then◌else◌, Option, Some, None, List, [], ◌∷◌, length, count_by}
use Rattle.resp_core.specs.Tree.{Tree}
use Rattle.resp_core.specs.Value.{tree_of}
use Rattle.resp_core.specs.declared.Value.{Value}
use Rattle.splitter.specs.declared.Join.{Join}
use Rattle.splitter.specs.Join.{MayJoin}

-- the values that have come, each in its part's place
abbrev pub values_come : List Bool → List Value → List (Option Tree)
values_come [] values = []
values_come (has_come ∷ come) [] = []
values_come (has_come ∷ come) (value ∷ values) = (if has_come then Some (tree_of value) else None) ∷ values_come come values

-- each part has a place, the join may be made of so many values, and it is known how many of them are missing
pub record AreKept (how : Join) (come : List Bool) (values : List Value) (missing : ℕ) : Type 0 where
  pub places : length values ≡ length come
  pub may_join : MayJoin how (length come)
  pub count : missing ≡ count_by not come
