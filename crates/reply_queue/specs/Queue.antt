-- The commands of a connection that are accepted and not popped.
use Rattle.std.specs.Prelude.{◌≡◌, ◌-◌, ◌+◌, ℕ, nat_lt, if◌then◌else◌, Option, Some, None, List, [], ◌∷◌, slice_get, drop, refl}
use Rattle.std.specs.Option.{option_and_then}
use Rattle.std.specs.Coded.{Coded, code_by, coded×, coded_ℕ, coded_list}
use Rattle.list_lemmas.specs.Lists.{changed_at}
use Rattle.resp_core.specs.Tree.{Tree}
use Rattle.reply_queue.specs.Command.{AwaitedCommand, command_code, with_value, reply_to, same_reply_to}

-- what contracts see of a queue: how many commands were popped, and the commands accepted since, the oldest first. The index
-- of a command is the number of those accepted before it.
pub record QueueState : Type 0 where
  pub popped : ℕ
  pub commands : List AwaitedCommand

-- a queue is stored as the pair of its fields
abbrev pub queue_code : Coded QueueState
queue_code =
    code_by (ℕ × List AwaitedCommand) (coded× coded_ℕ (coded_list command_code)) (λ q. (q.popped, q.commands))
    (λ p. record { popped = p.0; commands = p.1 }) (λ _. refl)

-- the command of an index, where it was accepted and not popped
abbrev pub command_at : QueueState → ℕ → Option AwaitedCommand
command_at q index = if nat_lt index q.popped then None else slice_get q.commands (index - q.popped)

-- what a command's part has: nothing where there is no such part, and else a value or none yet
abbrev pub value_at : QueueState → ℕ → ℕ → Option (Option Tree)
value_at q index part = option_and_then (λ command. slice_get command.values part) (command_at q index)

-- the command is accepted and not popped, and has this part, which has no value yet
abbrev pub IsOpen : QueueState → ℕ → ℕ → Type 0
IsOpen q index part = value_at q index part ≡ Some None

-- the queue once a command's part has this value
abbrev pub with_part : ℕ → ℕ → Tree → QueueState → QueueState
with_part index part value q = record { popped = q.popped; commands = changed_at (with_value part value) (index - q.popped) q.commands }

-- the reply to the oldest command, where each of its parts has a value
abbrev pub front_reply : List AwaitedCommand → Option Tree
front_reply [] = None
front_reply (command ∷ commands) = reply_to command

-- the reply to the oldest command, where it is the value of its one part as it came
abbrev pub same_front_reply : List AwaitedCommand → Option Tree
same_front_reply [] = None
same_front_reply (command ∷ commands) = same_reply_to command

-- the queue without its oldest command
abbrev pub without_front : QueueState → QueueState
without_front q = record { popped = q.popped + 1; commands = drop 1 q.commands }
