-- Lists whose members have not all come, one within the other.
use Rattle.std.specs.Prelude.{ℕ, ◌-◌, List, [], ◌∷◌, ◌++◌}
use Rattle.resp_core.specs.Tree.{Tree, list, trees_of}
use Rattle.resp_core.specs.Reading.{Outcome, found, and_then, many_at, value_at}
use Rattle.resp_core.specs.declared.begun.Begun.{Begun}

-- A list of which some members came: this is what is read of the one that is due, and then come so many others.
abbrev pub in_list : ℕ → ℕ → Begun → Outcome Tree → Outcome Tree
in_list most left begun o = and_then o (λ t rest. and_then (many_at (value_at most left) begun.due rest) (λ ts rest. found (list (trees_of (begun.members ++ t ∷ ts))) rest))

-- The outermost value, where this is what is read within these lists, the outermost first.
abbrev pub nested_outcome : ℕ → ℕ → List Begun → Outcome Tree → Outcome Tree
nested_outcome most left [] o = o
nested_outcome most left (begun ∷ others) o = in_list most (left - 1) begun (nested_outcome most (left - 1) others o)
