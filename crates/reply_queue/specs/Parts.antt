-- How a command keeps its parts.
use Rattle.std.specs.Prelude.{Bool, true, not, [], ◌∷◌}
use Rattle.std.specs.Option.{option_map}
use Rattle.resp_core.specs.Value.{tree_of}
use Rattle.splitter.specs.declared.plans.Join.TheVariants as joins
use Rattle.reply_queue.specs.Command.{AwaitedCommand, is_same}
use Rattle.reply_queue.specs.declared.command.Parts.{Parts}
use Rattle.reply_queue.specs.declared.command.Parts.TheVariants.{Same, Joined}

-- the command of these parts
abbrev pub command_by : Parts → AwaitedCommand
command_by (Same value) = record { how = joins.Same; values = option_map tree_of value ∷ [] }
command_by (Joined joined) = joined

-- whether it is seen which command's reply is its one value as it is
abbrev pub are_told_apart : Parts → Bool
are_told_apart (Same value) = true
are_told_apart (Joined joined) = not (is_same joined.how)
