use Rattle.std.specs.Prelude.{◌≤◌, ◌<◌, ℕ, length, slice_index_or}
use Rattle.open_sockets.proofs.line_sockets.LineSockets.fewest.Given as goal

-- no line so far has fewer sockets
abbrev pub invariant-loop-line : goal.invariant-loop-line
invariant-loop-line l =
    (l.fewest ≤ l.line) × (0 < length l.fn.self → l.fewest < length l.fn.self)
    × ((k : ℕ) → k < l.line → slice_index_or l.fn.self l.fewest 0 ≤ slice_index_or l.fn.self k 0)
