-- The text of a value behind its first line, and what that line tells.
use Rattle.std.proofs.Common.{◌≡◌, ℕ, zero, suc, true, List, [], ◌∷◌, ◌++◌, length, decimal, refl}
use Rattle.std.specs.Fmt.{signed_decimal}
use Rattle.resp_core.specs.Tree.{Tree, Trees, simple, fault, whole, bulk, null_bulk, list, null_list, no_trees, tree, members, is_plain_tree, are_plain_trees}
use Rattle.resp_core.specs.Text.{line_end, texts}
use Rattle.proxy_record.specs.ReadBack.{IsShowable, AreShowable}

-- the type byte of a value
abbrev pub kind_of : Tree → ℕ
kind_of (simple s) = 43
kind_of (fault s) = 45
kind_of (whole n) = 58
kind_of (bulk s) = 36
kind_of null_bulk = 36
kind_of (list ts) = 42
kind_of null_list = 42

-- what stands on its first line
abbrev pub shown_of : Tree → List ℕ
shown_of (simple s) = s
shown_of (fault s) = s
shown_of (whole n) = signed_decimal n
shown_of (bulk s) = decimal (length s)
shown_of null_bulk = 45 ∷ 49 ∷ []
shown_of (list ts) = decimal (length (members ts))
shown_of null_list = 45 ∷ 49 ∷ []

-- what stands behind that line
abbrev pub rest_of : Tree → List ℕ
rest_of (simple s) = []
rest_of (fault s) = []
rest_of (whole n) = []
rest_of (bulk s) = s ++ line_end
rest_of null_bulk = []
rest_of (list ts) = texts ts
rest_of null_list = []

mutual
  -- what can be shown can be written
  pub plain_showable : (left : ℕ) (t : Tree) → IsShowable left t → is_plain_tree t ≡ true
  plain_showable left (simple s) h = h
  plain_showable left (fault s) h = h
  plain_showable left (whole n) h = refl
  plain_showable left (bulk s) h = refl
  plain_showable left null_bulk h = refl
  plain_showable zero (list ts) h = absurd h
  plain_showable (suc left) (list ts) h = plain_members left ts h
  plain_showable zero null_list h = absurd h
  plain_showable (suc left) null_list h = refl

  plain_members : (left : ℕ) (ts : Trees) → AreShowable left ts → are_plain_trees ts ≡ true
  plain_members left no_trees h = refl
  plain_members left (tree t ts) h = rw (plain_showable left t h.0) (plain_members left ts h.1)
