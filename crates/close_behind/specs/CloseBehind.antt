-- Behind which requests a connection is closed.
use Rattle.std.specs.Prelude.{◌≡◌, ◌≢◌, ◌≤◌, ◌<◌, ⊤, ◌&&◌, ◌||◌, ℕ, Bool, true, false, Option, None, List, [], ◌∷◌, length, if◌then◌else◌}
use Rattle.std.specs.List.{list_any}
use Rattle.resp_core.specs.Command.{is_command, word, words_of}
use Rattle.command_table.specs.Table.{is_name, row_named}
use Rattle.splitter.specs.Request.{Request, read, broken}
use Rattle.splitter.specs.Plan.{Plan, here, leave, parts, plan_of}
use Rattle.splitter.specs.declared.plans.Local.{Local}
use Rattle.close_behind.specs.declared.name_list.NameError.{NameError}

-- behind each refused command, or behind refused ones of these names
pub record Behind : Type 0 where
  pub all : Bool
  pub names : List (List ℕ)

-- whether the proxy answers that it doesn't know the command
abbrev pub is_unknown : Local → Bool
is_unknown Local.Unsupported = true
is_unknown name = false

-- whether a plan is to answer that the command is unknown
abbrev pub is_refused : Plan → Bool
is_refused (here name v) = is_unknown name
is_refused (leave name v) = false
is_refused (parts how ps) = false

-- the name of a command
abbrev pub name_of : Request → List ℕ
name_of (read t) = word (words_of t) 0
name_of broken = []

-- whether a name, in any case, is one of these
abbrev pub is_among : List (List ℕ) → List ℕ → Bool
is_among names name = list_any (is_name name) names

-- A connection is closed behind a request exactly where the request is refused as unsupported and its name is one of the names,
-- or all are.
abbrev pub closes_behind : Behind → Request → Bool
closes_behind behind r = is_refused (plan_of r) && (behind.all || is_among behind.names (name_of r))

-- no request of these closes the connection
abbrev pub NoneCloses : Behind → List Request → Type 0
NoneCloses behind rs = list_any (closes_behind behind) rs ≡ false

-- the requests up to and with the first that closes the connection
abbrev pub up_to_closing : Behind → List Request → List Request
up_to_closing behind [] = []
up_to_closing behind (r ∷ rs) = r ∷ (if closes_behind behind r then [] else up_to_closing behind rs)

-- a request is the command of this name
abbrev pub IsCommandNamed : Request → List ℕ → Type 0
IsCommandNamed (read t) name = (is_command t ≡ true) × (name ≡ word (words_of t) 0)
IsCommandNamed broken name = ⊥

-- a name may be added to these: it has 1 to 64 bytes, fewer than 64 are there, and the proxy doesn't know it
pub record MayAdd (names : List (List ℕ)) (name : List ℕ) : Type 0 where
  pub some : name ≢ []
  pub short : length name ≤ 64
  pub few : length names < 64
  pub unknown : row_named name ≡ None

-- why a name isn't added, each only where it is so
abbrev pub NameFault : NameError → List (List ℕ) → List ℕ → Type 0
NameFault NameError.NoMemory names name = ⊤
NameFault NameError.Empty names name = name ≡ []
NameFault NameError.TooLong names name = 64 < length name
NameFault NameError.TooMany names name = 64 ≤ length names
NameFault NameError.Supported names name = row_named name ≢ None
