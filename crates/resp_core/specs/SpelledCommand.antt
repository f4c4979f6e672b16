-- A command that is its text.
use Rattle.std.specs.Prelude.{◌≡◌, ◌<◌, ◌≤◌, ◌++◌, ℕ, List, length, drop}
use Rattle.resp_core.specs.Tree.{Tree, null_list}
use Rattle.resp_core.specs.Text.{text, line_end}
use Rattle.resp_core.specs.Grammar.{max_depth}
use Rattle.resp_core.specs.Command.{command_of, words_of}
use Rattle.resp_core.specs.Reading.{Outcome, found, unfinished, refused, value_at}

-- the most words
abbrev pub max_words : ℕ
max_words = 9

-- the most bytes of the text
abbrev pub max_bytes : ℕ
max_bytes = 512

-- the bytes are the one spelling of the command of these words, which are few and short
pub record IsSpelled (b : List ℕ) (ws : List (List ℕ)) : Type 0 where
  pub text : b ≡ text (command_of ws)
  pub some : 0 < length ws
  pub few : length ws ≤ max_words
  pub short : length b ≤ max_bytes

-- the value that was read; the null array where none was
abbrev pub tree_found : Outcome Tree → Tree
tree_found (found t rest) = t
tree_found unfinished = null_list
tree_found (refused r rest) = null_list

-- the words of the command that these bytes spell
abbrev pub words_in : List ℕ → List (List ℕ)
words_in b = words_of (tree_found (value_at max_words max_depth b))

-- Behind so many bytes of a head stand as many bytes of a bulk string, its line end, and the others.
pub record IsPlace (head len : ℕ) (s rest b : List ℕ) : Type 0 where
  pub len_is : len ≡ length s
  pub inside : head ≤ length b
  pub behind : drop head b ≡ s ++ line_end ++ rest
