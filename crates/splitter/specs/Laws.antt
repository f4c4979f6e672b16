-- Laws of plans and joins, for whoever stands on them.
use Rattle.std.specs.Prelude.{◌≡◌, ◌<◌, ◌≤◌, ℕ, Bool, true, List, ◌∷◌, ◌++◌, All, length, map}
use Rattle.std.specs.List.{list_all}
use Rattle.resp_core.specs.Tree.{Tree, is_plain_tree}
use Rattle.resp_core.specs.Text.{text}
use Rattle.resp_core.specs.Grammar.{max_text, max_depth}
use Rattle.resp_core.specs.ValueLimits.{IsWithin}
use Rattle.resp_core.specs.Command.{is_command, command_of}
use Rattle.resp_core.specs.Laws.{Holds}
use Rattle.limits.specs.declared.messages.TheConstants.{MAX_CLIENT_MEMBERS}
use Rattle.splitter.specs.declared.plans.Join.{Join}
use Rattle.splitter.specs.declared.plans.PartPlan.{PartPlan}
use Rattle.splitter.specs.Request.{Request, read}
use Rattle.splitter.specs.Plan.{Plan, here, leave, parts, plan_of}
use Rattle.splitter.specs.Split.{Words, part_at}
use Rattle.splitter.specs.Commands.{commands_of}
use Rattle.splitter.specs.Join.{MayJoin, join_of}
use Rattle.resp_core.specs.Stream.{Splits}
use Rattle.splitter.specs.Requests.{AreRequests}

-- the part of a command of these words: its text is that command's, and its key is one of them, behind the name
pub record IsPart (p : PartPlan) (words : Words) : Type 0 where
  pub command : is_command (command_of words) ≡ true
  pub key_at : ℕ
  pub behind_name : 0 < key_at
  pub inside : key_at < length words
  pub part_is : p ≡ part_at key_at words

-- Parts are as many as their join asks for, and each of them is a command.
abbrev pub PartsAreCommands : Type 0
PartsAreCommands = (t : Tree) (how : Join) (ps : List PartPlan) → plan_of (read t) ≡ parts how ps → MayJoin how (length ps) × All (λ p. (words : Words) × IsPart p words) ps

-- The parts of a command that keeps a client's limits keep them too, and none has a longer text than the command.
abbrev pub PartsKeepLimits : Type 0
PartsKeepLimits = (t : Tree) (how : Join) (ps : List PartPlan) → plan_of (read t) ≡ parts how ps → IsWithin MAX_CLIENT_MEMBERS max_depth t → All (λ p. (words : Words) × IsPart p words × IsWithin MAX_CLIENT_MEMBERS max_depth (command_of words) × (length p.text ≤ length (text t))) ps

-- Parts are those of the commands that hosts are asked for a request.
abbrev pub PartsAreOfCommands : Type 0
PartsAreOfCommands = (r : Request) (how : Join) (ps : List PartPlan) → plan_of r ≡ parts how ps → (key_at : ℕ) × (ps ≡ map (part_at key_at) (commands_of r))

-- The commands that hosts are asked for a command that keeps a client's limits keep them too, and none is longer than it.
abbrev pub CommandsKeepLimits : Type 0
CommandsKeepLimits = (t : Tree) → IsWithin MAX_CLIENT_MEMBERS max_depth t → All (λ words. IsWithin MAX_CLIENT_MEMBERS max_depth (command_of words) × (length (text (command_of words)) ≤ length (text t))) (commands_of (read t))

-- whatever follows these bytes in a stream, under a client's limits its first value is this one
abbrev pub IsReadFirst : List ℕ → Tree → Type 0
IsReadFirst b t = (more : List ℕ) (ts : List Tree) (refused : Bool) → Holds MAX_CLIENT_MEMBERS (b ++ more) ts refused → (others : List Tree) × (ts ≡ t ∷ others)

-- A host that reads with a client's limits reads the text of a part as the part's command.
abbrev pub PartsAreReadBack : Type 0
PartsAreReadBack = (t : Tree) (how : Join) (ps : List PartPlan) → plan_of (read t) ≡ parts how ps → IsWithin MAX_CLIENT_MEMBERS max_depth t → length (text t) ≤ max_text → All (λ p. (words : Words) × IsPart p words × IsReadFirst p.text (command_of words)) ps

-- the value of a plan, if it has one, can be written
abbrev pub has_plain_value : Plan → Bool
has_plain_value (here name v) = is_plain_tree v
has_plain_value (leave name v) = is_plain_tree v
has_plain_value (parts how ps) = true

-- What the proxy answers itself can be written.
abbrev pub PlanTextsArePlain : Type 0
PlanTextsArePlain = (r : Request) → has_plain_value (plan_of r) ≡ true

-- A join of values that can be written can be.
abbrev pub JoinsOfPlainValuesArePlain : Type 0
JoinsOfPlainValuesArePlain = (how : Join) (ts : List Tree) → list_all is_plain_tree ts ≡ true → is_plain_tree (join_of how ts) ≡ true

-- Each stream has a list of requests,
abbrev pub EachStreamAsks : Type 0
EachStreamAsks = (b : List ℕ) → (rs : List Request) × AreRequests b rs

-- and one alone.
abbrev pub OneAsking : Type 0
OneAsking = (b : List ℕ) (rs qs : List Request) → AreRequests b rs → AreRequests b qs → rs ≡ qs

-- A client's stream that is cut behind some of its values asks these, and then what the rest asks with whatever follows it.
abbrev pub RequestsGoOn : Type 0
RequestsGoOn = (b more rest : List ℕ) (ts : List Tree) (rs : List Request) → Splits MAX_CLIENT_MEMBERS b ts rest → AreRequests (rest ++ more) rs → AreRequests (b ++ more) (map read ts ++ rs)
