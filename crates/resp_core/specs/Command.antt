-- What a command is, and its words.
use Rattle.std.specs.Prelude.{◌≡◌, ℕ, Bool, true, false, ◌&&◌, List, [], map, length, nat_lt, slice_index_or}
use Rattle.std.specs.List.{list_all}
use Rattle.resp_core.specs.Tree.{Tree, simple, fault, whole, bulk, null_bulk, list, null_list, members, trees_of}

-- whether a value is a bulk string
abbrev pub is_bulk : Tree → Bool
is_bulk (simple s) = false
is_bulk (fault s) = false
is_bulk (whole n) = false
is_bulk (bulk s) = true
is_bulk null_bulk = false
is_bulk (list ts) = false
is_bulk null_list = false

-- the bytes of a bulk string
abbrev pub payload_of : Tree → List ℕ
payload_of (simple s) = []
payload_of (fault s) = []
payload_of (whole n) = []
payload_of (bulk s) = s
payload_of null_bulk = []
payload_of (list ts) = []
payload_of null_list = []

-- at least one bulk string, and bulk strings alone
abbrev pub are_words : List Tree → Bool
are_words ts = nat_lt 0 (length ts) && list_all is_bulk ts

-- a command is an array of at least one bulk string and of bulk strings alone
abbrev pub is_command : Tree → Bool
is_command (simple s) = false
is_command (fault s) = false
is_command (whole n) = false
is_command (bulk s) = false
is_command null_bulk = false
is_command (list ts) = are_words (members ts)
is_command null_list = false

-- a command's words
abbrev pub words_of : Tree → List (List ℕ)
words_of (simple s) = []
words_of (fault s) = []
words_of (whole n) = []
words_of (bulk s) = []
words_of null_bulk = []
words_of (list ts) = map payload_of (members ts)
words_of null_list = []

-- the word of this number, the command's name being word 0
abbrev pub word : List (List ℕ) → ℕ → List ℕ
word words at = slice_index_or words at []

-- the value is an array of these members
abbrev pub IsArrayOf : List Tree → Tree → Type 0
IsArrayOf ts t = t ≡ list (trees_of ts)

-- the command of these words
abbrev pub command_of : List (List ℕ) → Tree
command_of words = list (trees_of (map bulk words))
