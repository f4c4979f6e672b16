-- The answers of a stub, and its map after each.
use Rattle.std.specs.Prelude.{ℕ, ℤ, pos, if◌then◌else◌, List, [], ◌∷◌, length, drop, Option, Some, None, codes}
use Rattle.std.specs.Fmt.{signed_decimal}
use Rattle.resp_core.specs.Tree.{Tree, simple, fault, whole, bulk, null_bulk}
use Rattle.resp_core.specs.Command.{is_command, words_of, word}
use Rattle.stub_server.specs.Command.{command_named, takes}
use Rattle.stub_server.specs.Map.{Map, value_at, with_value, map_without, count_among, count_keys}
use Rattle.stub_server.specs.Number.{number_in, one_more}
use Rattle.stub_server.specs.declared.command.Command.{Command}
use Rattle.stub_server.specs.declared.command.Command.TheVariants.{Get, Set, Del, Exists, Incr}

-- what a request gives: an answer, and the map after it
pub record Outcome : Type 0 where
  pub answer : Tree
  pub map : Map

-- an answer, and the map as it was or another
abbrev pub gives : Tree → Map → Outcome
gives answer m = record { answer = answer; map = m }

-- the answer to what was done
abbrev pub ok_reply : Tree
ok_reply = simple (codes "OK")

-- the error of a name that isn't in the table
abbrev pub unknown_command : Tree
unknown_command = fault (codes "ERR unknown command")

-- the error of a wrong number of words
abbrev pub wrong_number : Tree
wrong_number = fault (codes "ERR wrong number of arguments")

-- the error of a value that is no number
abbrev pub no_number : Tree
no_number = fault (codes "ERR value is not an integer or out of range")

-- a value as it is answered
abbrev pub bulk_of : Option (List ℕ) → Tree
bulk_of None = null_bulk
bulk_of (Some value) = bulk value

-- the number that a value writes; a missing one counts as 0
abbrev pub number_of_value : Option (List ℕ) → Option ℤ
number_of_value None = Some (pos 0)
number_of_value (Some value) = number_in value

-- the number at a key, where there is one
abbrev pub number_at : List ℕ → Map → Option ℤ
number_at key m = number_of_value (value_at key m)

-- the number is answered and stored, where there is one
abbrev pub counted_reply : Map → List ℕ → Option ℤ → Outcome
counted_reply m key None = gives no_number m
counted_reply m key (Some n) = gives (whole n) (with_value key (signed_decimal n) m)

-- the number at the key grows by one, where there is one and it isn't the greatest
abbrev pub incremented_reply : Map → List ℕ → Option ℤ → Outcome
incremented_reply m key None = gives no_number m
incremented_reply m key (Some n) = counted_reply m key (one_more n)

-- the outcome of a command with a right number of words
abbrev pub outcome_by : Map → Command → List (List ℕ) → Outcome
outcome_by m Get words = gives (bulk_of (value_at (word words 1) m)) m
outcome_by m Set words = gives ok_reply (with_value (word words 1) (word words 2) m)
outcome_by m Del words = gives (whole (pos (count_among (drop 1 words) m))) (map_without (drop 1 words) m)
outcome_by m Exists words = gives (whole (pos (count_keys m (drop 1 words)))) m
outcome_by m Incr words = incremented_reply m (word words 1) (number_at (word words 1) m)

-- what a command comes to by its name
abbrev pub outcome_named : Map → Option Command → List (List ℕ) → Outcome
outcome_named m None words = gives unknown_command m
outcome_named m (Some command) words = if takes command (length words) then outcome_by m command words else gives wrong_number m

-- what a command comes to by its words
abbrev pub outcome_of_words : Map → List (List ℕ) → Outcome
outcome_of_words m words = outcome_named m (command_named (word words 0)) words

-- the outcome of a request: an array of at least one bulk string and of bulk strings alone has words, and any other value is
-- no command
abbrev pub outcome_of : Map → Tree → Outcome
outcome_of m t = if is_command t then outcome_of_words m (words_of t) else gives unknown_command m

-- the answer to a request
abbrev pub answer_of : Map → Tree → Tree
answer_of m t = (outcome_of m t).answer

-- the map after a request
abbrev pub map_after : Map → Tree → Map
map_after m t = (outcome_of m t).map

-- the answers to requests, one after the other
abbrev pub answers_of : Map → List Tree → List Tree
answers_of m [] = []
answers_of m (t ∷ ts) = answer_of m t ∷ answers_of (map_after m t) ts

-- the map after requests
abbrev pub map_after_all : Map → List Tree → Map
map_after_all m [] = m
map_after_all m (t ∷ ts) = map_after_all (map_after m t) ts
