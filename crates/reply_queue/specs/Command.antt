-- A command whose reply is awaited: the values of its parts, as far as they have come.
use Rattle.std.specs.Prelude.{ℕ, Bool, true, false, if◌then◌else◌, Option, Some, None, List, [], ◌∷◌, replicate, slice_set, refl}
use Rattle.std.specs.Option.{option_map}
use Rattle.std.specs.Coded.{Coded, code_by, coded×, coded_list, coded_option}
use Rattle.resp_core.specs.Tree.{Tree}
use Rattle.resp_core.specs.Code.{tree_code}
use Rattle.splitter.specs.declared.Join.{Join}
use Rattle.splitter.specs.declared.plans.Join.TheVariants.{Same, Get, Set, Sum}
use Rattle.splitter.specs.contracts.Join.{the_row}
use Rattle.splitter.specs.Join.{join_of}

-- how the values of the parts become one, and the value of each part, none where it hasn't come yet
pub record AwaitedCommand : Type 0 where
  pub how : Join
  pub values : List (Option Tree)

-- a command is stored as the pair of its fields
abbrev pub command_code : Coded AwaitedCommand
command_code =
    code_by (Join × List (Option Tree)) (coded× the_row.coded (coded_list (coded_option tree_code))) (λ c. (c.how, c.values))
    (λ p. record { how = p.0; values = p.1 }) (λ _. refl)

-- a command of n parts, of which none has a value yet
abbrev pub awaiting_command : Join → ℕ → AwaitedCommand
awaiting_command how parts = record { how = how; values = replicate parts None }

-- the command once a part has this value
abbrev pub with_value : ℕ → Tree → AwaitedCommand → AwaitedCommand
with_value part value command = record { how = command.how; values = slice_set command.values part (Some value) }

-- the values of the parts, where each has one
abbrev pub all_values : List (Option Tree) → Option (List Tree)
all_values [] = Some []
all_values (None ∷ values) = None
all_values (Some value ∷ values) = option_map (λ others. value ∷ others) (all_values values)

-- the reply to a command: the join of the values of its parts, where each has one
abbrev pub reply_to : AwaitedCommand → Option Tree
reply_to command = option_map (join_of command.how) (all_values command.values)

-- whether the reply is the one value itself
abbrev pub is_same : Join → Bool
is_same Same = true
is_same Get = false
is_same Set = false
is_same Sum = false

-- the reply to a command, where it is the value of its one part as it came
abbrev pub same_reply_to : AwaitedCommand → Option Tree
same_reply_to command = if is_same command.how then reply_to command else None
