-- The commands that a command is split into, each with the words of one part.
use Rattle.std.specs.Prelude.{ℕ, List, [], ◌∷◌, map, drop, codes}
use Rattle.std.specs.Str.{str_to_ascii_uppercase}
use Rattle.resp_core.specs.Text.{text}
use Rattle.resp_core.specs.Command.{command_of, word}
use Rattle.command_table.specs.Table.{Row}
use Rattle.command_table.specs.declared.Kind.{Kind}
use Rattle.command_table.specs.declared.Kind.TheVariants.{Ping, Echo, Quit, One, SplitGet, SplitSet, SplitSum}
use Rattle.splitter.specs.declared.plans.Join.{Join}
use Rattle.splitter.specs.declared.plans.Join.TheVariants.{Same, Get, Set, Sum}
use Rattle.splitter.specs.declared.plans.PartPlan.{PartPlan}

-- a command's words
abbrev pub Words : Type 0
Words = List (List ℕ)

-- words two by two; a last one alone is left out
abbrev pub pairs : Words → List (List ℕ × List ℕ)
pairs [] = []
pairs (key ∷ []) = []
pairs (key ∷ value ∷ words) = (key, value) ∷ pairs words

-- the commands of the parts: GET and the split sums ask for one key each, SET for one key and its value, and any other
-- command that a host answers stays whole
abbrev pub split_by : Kind → List ℕ → Words → List Words
split_by Ping name words = []
split_by Echo name words = []
split_by Quit name words = []
split_by One name words = words ∷ []
split_by SplitGet name words = map (λ key. codes "GET" ∷ key ∷ []) (drop 1 words)
split_by SplitSet name words = map (λ pair. codes "SET" ∷ pair.0 ∷ pair.1 ∷ []) (pairs (drop 1 words))
split_by SplitSum name words = map (λ key. str_to_ascii_uppercase name ∷ key ∷ []) (drop 1 words)

-- the commands that a command is split into
abbrev pub split : Row → Words → List Words
split r words = split_by r.kind r.name words

-- how the values of the parts become one
abbrev pub join_by : Kind → Join
join_by Ping = Same
join_by Echo = Same
join_by Quit = Same
join_by One = Same
join_by SplitGet = Get
join_by SplitSet = Set
join_by SplitSum = Sum

-- the part of a command of these words, its key being the word of this number
abbrev pub part_at : ℕ → Words → PartPlan
part_at key_at words = record { key = word words key_at; text = text (command_of words) }
