-- Texts that are read back.
use Rattle.std.specs.Prelude.{◌≡◌, ◌==◌, ◌||◌, ℕ, zero, suc, Bool, true, List, [], ◌∷◌, ◌++◌, length, decimal, Option, Some, None, IfSome}
use Rattle.std.specs.Option.{option_map}
use Rattle.std.specs.List.{list_all}
use Rattle.resp_core.specs.Tree.{Tree, Trees, simple, fault, whole, bulk, null_bulk, list, null_list, no_trees, tree, is_text_byte, is_plain_tree, members}
use Rattle.resp_core.specs.Text.{text, texts, line_end}
use Rattle.resp_core.specs.ValueLimits.{IsLong}
use Rattle.resp_core.specs.Value.{tree_of}
use Rattle.resp_core.specs.declared.value.Value.{Value}

-- A value that can be written, with integers of 64 bits, in which so many arrays may nest.
abbrev mutual
  pub IsShowable : ℕ → Tree → Type 0
  IsShowable left (simple s) = list_all is_text_byte s ≡ true
  IsShowable left (fault s) = list_all is_text_byte s ≡ true
  IsShowable left (whole n) = IsLong n
  IsShowable left (bulk s) = Unit {0}
  IsShowable left null_bulk = Unit {0}
  IsShowable zero (list ts) = ⊥
  IsShowable (suc left) (list ts) = AreShowable left ts
  IsShowable zero null_list = ⊥
  IsShowable (suc left) null_list = Unit {0}

  pub AreShowable : ℕ → Trees → Type 0
  AreShowable left no_trees = Unit {0}
  AreShowable left (tree t ts) = IsShowable left t × AreShowable left ts

-- the tree of the value that was found
abbrev pub found_in : Option Value → Option Tree
found_in found = option_map tree_of found

-- the most arrays that may nest in a host's answer
abbrev pub max_nested : ℕ
max_nested = 8

-- A value that was found has the text as its one spelling. Each text that is the one spelling of a value within the limits has
-- that value found.
pub record IsReadBack (bytes : List ℕ) (found : Option Tree) : Type 0 where
  pub spells : IfSome found (λ t. (is_plain_tree t ≡ true) × (bytes ≡ text t))
  pub finds : (t : Tree) → IsShowable max_nested t → bytes ≡ text t → found ≡ Some t

-- A value within the limits whose text stands in front is found, and what stands behind it is left.
abbrev pub Finds : ℕ → List ℕ → List ℕ → Option Tree → Type 0
Finds left before after found =
    (t : Tree) (behind : List ℕ) → IsShowable left t → before ≡ text t ++ behind → (found ≡ Some t) × (after ≡ behind)

-- the same of an array behind its first line
abbrev pub FindsList : ℕ → List ℕ → List ℕ → List ℕ → Option Tree → Type 0
FindsList left shown before after found =
    (ts : Trees) (behind : List ℕ) → IsShowable left (list ts) → shown ≡ decimal (length (members ts)) → before ≡ texts ts ++ behind
    → (found ≡ Some (list ts)) × (after ≡ behind)

-- the same of the members of an array
abbrev pub FindsMembers : ℕ → ℕ → List ℕ → List ℕ → Option (List Tree) → Type 0
FindsMembers left count before after found =
    (ts : Trees) (behind : List ℕ) → AreShowable left ts → count ≡ length (members ts) → before ≡ texts ts ++ behind
    → (found ≡ Some (members ts)) × (after ≡ behind)

-- the same of a bulk string behind its first line
abbrev pub FindsBulk : List ℕ → List ℕ → List ℕ → Option Tree → Type 0
FindsBulk shown before after found =
    (s behind : List ℕ) → shown ≡ decimal (length s) → before ≡ s ++ line_end ++ behind → (found ≡ Some (bulk s)) × (after ≡ behind)

-- the same of a null behind its first line
abbrev pub FindsNull : Tree → List ℕ → List ℕ → List ℕ → Option Tree → Type 0
FindsNull null shown before after found = shown ≡ 45 ∷ 49 ∷ [] → (found ≡ Some null) × (after ≡ before)

-- a CR or an LF
abbrev pub is_end : ℕ → Bool
is_end b = (b == 13) || (b == 10)

-- the type and the bytes of a line were taken
abbrev pub IsTaken : ℕ → List ℕ → Option (ℕ × List ℕ) → Type 0
IsTaken kind s None = ⊥
IsTaken kind s (Some taken) = (taken.0 ≡ kind) × (taken.1 ≡ s)
