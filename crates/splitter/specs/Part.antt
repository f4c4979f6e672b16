-- How the text of a part is put together.
use Rattle.std.specs.Prelude.{ℕ, List, map, flat_map, ◌++◌}
use Rattle.std.specs.Fmt.{decimal}
use Rattle.resp_core.specs.Tree.{bulk}
use Rattle.resp_core.specs.Text.{line, text}
use Rattle.splitter.specs.declared.plans.PartPlan.{PartPlan}

-- the text of a command of so many words, up to and with its name
abbrev pub head_of : ℕ → List ℕ → List ℕ
head_of words name = line 42 (decimal words) ++ text (bulk name)

-- a part with this key and text
abbrev pub part_of : List ℕ → List ℕ → PartPlan
part_of key bytes = record { key = key; text = bytes }

-- the parts with these keys, whose texts begin with this head
abbrev pub key_parts_of : List ℕ → List (List ℕ) → List PartPlan
key_parts_of head keys = map (λ key. part_of key (head ++ text (bulk key))) keys

-- their texts, one behind the other
abbrev pub key_texts : List ℕ → List (List ℕ) → List ℕ
key_texts head keys = flat_map (λ key. head ++ text (bulk key)) keys
