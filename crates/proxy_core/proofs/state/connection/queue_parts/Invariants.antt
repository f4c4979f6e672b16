-- Up to here each part has what it gets at once.
use Rattle.std.proofs.Common.{◌≡◌, ◌+◌, ◌-◌, ◌++◌, ◌∷◌, [], None, length, map, take, replicate}
use Rattle.proxy_core.specs.Places.{value_of_placed}
use Rattle.proxy_core.proofs.state.connection.queue_parts.Given as goal

abbrev pub invariant-loop-part : goal.invariant-loop-part
invariant-loop-part l = record {
  command : l.command ≡ l.fn.queue.popped + length l.fn.queue.commands;
  queue : l.queue ≡ record {
    popped = l.fn.queue.popped;
    commands = l.fn.queue.commands
        ++ record { how = l.fn.how; values = map value_of_placed (take l.part l.placed) ++ replicate (length l.placed - l.part) None } ∷ [];
  };
}
