use Rattle.std.specs.Prelude.{◌≡◌, ◌+◌, length}
use Rattle.std.specs.List.{filter_map}
use Rattle.std.specs.Vec.Iter.{into_iter_len}
use Rattle.proxy_connections.specs.Assigned.{HaveFirstPlaces}
use Rattle.proxy_rounds.specs.Tasks.{assigned_of}
use Rattle.proxy_rounds.proofs.generation.tasks.Given as goal

-- each task so far is that of a worker, at the place behind the one before
abbrev pub invariant-loop-poll : goal.invariant-loop-poll
invariant-loop-poll g l =
    (goal.iterator-loop-poll g).can_next l.poll-iterator × (goal.iterator-loop-poll g).is_finite l.poll-iterator
    × (length l.tasks.items ≡ l.index) × (l.index + into_iter_len l.poll-iterator ≡ length l.fn.polls.items)
    × HaveFirstPlaces (length l.fn.polls.items) l.index (filter_map assigned_of l.tasks.items)
    × (l.workers ≡ length l.fn.polls.items)
