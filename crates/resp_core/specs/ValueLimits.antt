-- The limits that a value keeps.
use Rattle.std.specs.Prelude.{◌<◌, ◌≤◌, ◌^◌, ℕ, zero, suc, ℤ, pos, negsuc, Bool, nat_lt, length}
use Rattle.resp_core.specs.Tree.{Tree, Trees, simple, fault, whole, bulk, null_bulk, list, null_list, no_trees, tree, members}
use Rattle.resp_core.specs.Grammar.{max_line, max_bulk}

-- the signed 64-bit range
abbrev pub IsLong : ℤ → Type 0
IsLong (pos n) = n < 2 ^ 63
IsLong (negsuc n) = n < 2 ^ 63

-- whether a number is in that range
abbrev pub is_long : ℤ → Bool
is_long (pos n) = nat_lt n (2 ^ 63)
is_long (negsuc n) = nat_lt n (2 ^ 63)

-- lists of at most so many members, of which so many may nest
abbrev mutual
  pub IsWithin : ℕ → ℕ → Tree → Type 0
  IsWithin most left (simple s) = length s ≤ max_line
  IsWithin most left (fault s) = length s ≤ max_line
  IsWithin most left (whole n) = IsLong n
  IsWithin most left (bulk s) = length s ≤ max_bulk
  IsWithin most left null_bulk = Unit {0}
  IsWithin most zero (list ts) = ⊥
  IsWithin most (suc left) (list ts) = (length (members ts) ≤ most) × AreWithin most left ts
  IsWithin most zero null_list = ⊥
  IsWithin most (suc left) null_list = Unit {0}

  pub AreWithin : ℕ → ℕ → Trees → Type 0
  AreWithin most left no_trees = Unit {0}
  AreWithin most left (tree t ts) = IsWithin most left t × AreWithin most left ts
