-- The commands by name, and how many words each takes.
use Rattle.std.specs.Prelude.{ℕ, Bool, ◌==◌, nat_le, List, [], ◌∷◌, Option, find, codes}
use Rattle.std.specs.Option.{option_map}
use Rattle.std.specs.Str.{str_to_ascii_lowercase, bytes_eq}
use Rattle.stub_server.specs.declared.command.Command.{Command}
use Rattle.stub_server.specs.declared.command.Command.TheVariants.{Get, Set, Del, Exists, Incr}

-- a name in lower case, and what it asks
pub record Row : Type 0 where
  pub name : List ℕ
  pub command : Command

-- a row of the table
abbrev pub row : List ℕ → Command → Row
row name command = record { name = name; command = command }

-- the table
abbrev pub rows : List Row
rows =
    row (codes "get") Get
    ∷ row (codes "set") Set
    ∷ row (codes "del") Del
    ∷ row (codes "unlink") Del
    ∷ row (codes "exists") Exists
    ∷ row (codes "touch") Exists
    ∷ row (codes "incr") Incr
    ∷ []

-- what the first of these rows that has this name asks; names are compared without ASCII case
abbrev pub command_in : List Row → List ℕ → Option Command
command_in rs name = option_map (λ r. r.command) (find (λ r. bytes_eq (str_to_ascii_lowercase name) (str_to_ascii_lowercase r.name)) rs)

-- the command of a name
abbrev pub command_named : List ℕ → Option Command
command_named name = command_in rows name

-- whether the command may have so many words, its name among them
abbrev pub takes : Command → ℕ → Bool
takes Get words = words == 2
takes Set words = words == 3
takes Del words = nat_le 2 words
takes Exists words = nat_le 2 words
takes Incr words = words == 2
