-- A command is split into no more commands than it has words, or into one.
use Rattle.std.proofs.Common.{◌≤◌, ◌+◌, ℕ, List, [], ◌∷◌, length, drop, codes, arith}
use Rattle.std.specs.Str.{str_to_ascii_uppercase}
use Rattle.std.proofs.lemmas.List.{length-map, length-drop}
use Rattle.command_table.specs.declared.Kind.{Kind}
use Rattle.command_table.specs.declared.Kind.TheVariants.{Ping, Echo, Quit, One, SplitGet, SplitSet, SplitSum}
use Rattle.splitter.specs.Split.{Words, pairs, split_by}

-- no more pairs than words
length-pairs : (words : Words) → length (pairs words) ≤ length words
length-pairs [] = omega arith
length-pairs (key ∷ []) = omega arith
length-pairs (key ∷ value ∷ words) = omega (arith, length-pairs words)

-- no more commands than words, or one
pub length-split_by : (kind : Kind) (name : List ℕ) (words : Words) → length (split_by kind name words) ≤ length words + 1
length-split_by Ping name words = omega arith
length-split_by Echo name words = omega arith
length-split_by Quit name words = omega arith
length-split_by One name words = omega arith
length-split_by SplitGet name words = omega (arith, length-map (drop 1 words) (λ key. codes "GET" ∷ key ∷ []), length-drop 1 words)
length-split_by SplitSet name words = omega (arith, length-map (pairs (drop 1 words)) (λ (pair : List ℕ × List ℕ). codes "SET" ∷ pair.0 ∷ pair.1 ∷ []), length-pairs (drop 1 words), length-drop 1 words)
length-split_by SplitSum name words = omega (arith, length-map (drop 1 words) (λ key. str_to_ascii_uppercase name ∷ key ∷ []), length-drop 1 words)
