-- Values and words, as a line has them.
use Rattle.std.specs.Prelude.{ℕ, Bool, false, ◌||◌, List, [], ◌∷◌, ◌++◌, codes, nat_eq, bytes_eq, if◌then◌else◌}
use Rattle.std.specs.List.{starts_with}
use Rattle.std.specs.Fmt.{signed_decimal}
use Rattle.resp_core.specs.Tree.{Tree, Trees, simple, fault, whole, bulk, null_bulk, list, null_list, no_trees, tree}
use Rattle.proxy_record.specs.Leaves.{hex, leaf, leaf_if}
use Rattle.proxy_record.specs.declared.payloads.Payloads.{Payloads}
use Rattle.proxy_record.specs.declared.payloads.Payloads.TheVariants.{Clear, Hashed}

-- a simple string or an error that is in the clear as a whole
abbrev pub is_own_text : List ℕ → Bool
is_own_text bytes =
    bytes_eq bytes (codes "PONG") || bytes_eq bytes (codes "OK") || bytes_eq bytes (codes "invalid request")
    || bytes_eq bytes (codes "no upstream host") || bytes_eq bytes (codes "upstream failure")
    || bytes_eq bytes (codes "upstream protocol error") || bytes_eq bytes (codes "proxy busy")
    || bytes_eq bytes (codes "downstream protocol error")

-- one that is by its beginning
abbrev pub is_own_by_beginning : List ℕ → Bool
is_own_by_beginning bytes =
    starts_with nat_eq bytes (codes "unsupported command '") || starts_with nat_eq bytes (codes "wrong number of arguments for '")
    || starts_with nat_eq bytes (codes "finished with ")

-- whether a simple string or an error is in the clear
abbrev pub is_own : List ℕ → Bool
is_own bytes = is_own_text bytes || is_own_by_beginning bytes

-- a simple string or an error, behind its type
abbrev pub quoted_own : List ℕ → Payloads → List ℕ → List ℕ
quoted_own before payloads bytes = before ++ leaf_if (is_own bytes) payloads bytes ++ codes "\"]"

-- a bulk string
abbrev pub bulk_text : Payloads → List ℕ → List ℕ
bulk_text payloads bytes = codes "[\"$\", \"" ++ leaf payloads bytes ++ codes "\"]"

-- the digits of an integer, or their leaf
abbrev pub digits_text : Payloads → Bool → List ℕ → List ℕ
digits_text Clear is_sum digits = digits
digits_text (Hashed key tags) is_sum digits = if is_sum then digits else leaf (Hashed key tags) digits

-- an integer, by its digits
abbrev pub whole_text : Payloads → Bool → List ℕ → List ℕ
whole_text payloads is_sum digits = codes "[\":\", \"" ++ digits_text payloads is_sum digits ++ codes "\"]"

-- a value, and the members of an array
abbrev mutual
  pub value_text : Payloads → Bool → Tree → List ℕ
  value_text payloads is_sum (simple s) = quoted_own (codes "[\"+\", \"") payloads s
  value_text payloads is_sum (fault s) = quoted_own (codes "[\"-\", \"") payloads s
  value_text payloads is_sum (whole n) = whole_text payloads is_sum (signed_decimal n)
  value_text payloads is_sum (bulk s) = bulk_text payloads s
  value_text payloads is_sum null_bulk = codes "[\"$\"]"
  value_text payloads is_sum (list ts) = codes "[\"*\", [" ++ members_text payloads [] ts ++ codes "]]"
  value_text payloads is_sum null_list = codes "[\"*\"]"

  pub members_text : Payloads → List ℕ → Trees → List ℕ
  members_text payloads before no_trees = []
  members_text payloads before (tree t ts) = before ++ value_text payloads false t ++ members_text payloads (codes ", ") ts

-- an array
abbrev pub list_text : Payloads → Trees → List ℕ
list_text payloads ts = value_text payloads false (list ts)

-- the words behind a command's name
abbrev pub more_words : Payloads → List (List ℕ) → List ℕ
more_words payloads [] = []
more_words payloads (w ∷ ws) = codes "\", \"" ++ leaf payloads w ++ more_words payloads ws

-- the words of a command: its name in the clear, and then the others
abbrev pub words_text : Payloads → List (List ℕ) → List ℕ
words_text payloads [] = []
words_text payloads (name ∷ ws) = codes "\"words\": [\"" ++ hex name ++ more_words payloads ws ++ codes "\"]"
