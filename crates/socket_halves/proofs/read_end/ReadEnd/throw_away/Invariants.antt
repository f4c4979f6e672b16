use Rattle.std.specs.Prelude.{◌≤◌, ◌+◌, length}
use Rattle.socket_halves.specs.ReadEnd.{Discards}
use Rattle.socket_halves.proofs.read_end.ReadEnd.throw_away.Given as goal

-- what was read is discarded, and each read took some
abbrev pub invariant-loop-read : goal.invariant-loop-read
invariant-loop-read g l = Discards l.initial.self l.self (g.R.Read.remaining l.initial.reader) (g.R.Read.remaining l.reader)
    × (length l.initial.self.received + l._read ≤ length l.self.received)
