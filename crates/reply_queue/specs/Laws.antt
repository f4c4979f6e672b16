-- What holds of a queue from one call to the next.
use Rattle.std.specs.Prelude.{◌≡◌, ◌≢◌, ◌⊎◌, ◌+◌, ◌<◌, ℕ, Some, [], ◌∷◌, ◌++◌, length}
use Rattle.resp_core.specs.Tree.{Tree}
use Rattle.reply_queue.specs.Command.{AwaitedCommand}
use Rattle.reply_queue.specs.Queue.{QueueState, IsOpen, command_at, value_at, with_part, without_front}

-- an open part that is given a value has it
abbrev pub PartHasItsValue : Type 0
PartHasItsValue = (q : QueueState) (index part : ℕ) (value : Tree) → IsOpen q index part → value_at (with_part index part value q) index part ≡ Some (Some value)

-- and every other part has what it had
abbrev pub OtherPartsStay : Type 0
OtherPartsStay =
    (q : QueueState) (index part : ℕ) (value : Tree) (other_index other_part : ℕ) → IsOpen q index part → (other_index ≢ index) ⊎ (other_part ≢ part)
    → value_at (with_part index part value q) other_index other_part ≡ value_at q other_index other_part

-- a command behind all others is found by the number of commands before it
abbrev pub NewestHasItsIndex : Type 0
NewestHasItsIndex =
    (q r : QueueState) (command : AwaitedCommand) → r.popped ≡ q.popped → r.commands ≡ q.commands ++ command ∷ []
    → command_at r (q.popped + length q.commands) ≡ Some command

-- once the oldest command is out the others are found as before
abbrev pub OthersKeepTheirIndex : Type 0
OthersKeepTheirIndex = (q : QueueState) (index : ℕ) → q.popped < index → command_at (without_front q) index ≡ command_at q index
