-- The table of commands.
use Rattle.std.specs.Prelude.{ℕ, Bool, List, [], ◌∷◌, ◌++◌, Option, find, map, codes}
use Rattle.std.specs.Str.{str_to_ascii_lowercase, bytes_eq}
use Rattle.command_table.specs.Names.{one_key_names}
use Rattle.command_table.specs.declared.Kind.{Kind}
use Rattle.command_table.specs.declared.Kind.TheVariants.{Ping, Echo, Quit, One, SplitGet, SplitSet, SplitSum}

-- how a command is treated, its name in lower case, its least number of words, and the word that is its key
pub record Row : Type 0 where
  pub kind : Kind
  pub name : List ℕ
  pub least : ℕ
  pub key_at : ℕ

-- a row of the table
abbrev pub row : Kind → List ℕ → ℕ → ℕ → Row
row kind name least key_at = record { kind = kind; name = name; least = least; key_at = key_at }

-- the commands with numbers of their own
abbrev pub own_rows : List Row
own_rows =
    row Ping (codes "ping") 1 0
    ∷ row Echo (codes "echo") 2 0
    ∷ row Quit (codes "quit") 1 0
    ∷ row SplitGet (codes "mget") 2 1
    ∷ row SplitSet (codes "mset") 3 1
    ∷ row SplitSum (codes "del") 2 1
    ∷ row SplitSum (codes "exists") 2 1
    ∷ row SplitSum (codes "touch") 2 1
    ∷ row SplitSum (codes "unlink") 2 1
    ∷ row One (codes "eval") 4 3
    ∷ row One (codes "evalsha") 4 3
    ∷ []

-- a command that goes whole to the host of the word after its name
abbrev pub one_key_row : List ℕ → Row
one_key_row name = row One name 2 1

-- the table of commands: of each its kind, its name in lower case, its least number of words, and the word that is the key
unfoldable pub rows : List Row
rows = own_rows ++ map one_key_row one_key_names

-- a name is this one, compared without ASCII case
abbrev pub is_name : List ℕ → List ℕ → Bool
is_name name other = bytes_eq (str_to_ascii_lowercase name) (str_to_ascii_lowercase other)

-- the first of these rows that has this name
abbrev pub row_in : List Row → List ℕ → Option Row
row_in rs name = find (λ r. is_name name r.name) rs

-- the row of the command of a name, compared without ASCII case
abbrev pub row_named : List ℕ → Option Row
row_named name = row_in rows name
