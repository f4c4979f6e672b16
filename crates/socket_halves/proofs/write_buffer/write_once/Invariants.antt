use Rattle.std.specs.Io.KnownBytes.{Keeps}
use Rattle.socket_halves.proofs.write_buffer.write_once.Given as goal

-- nothing was taken
abbrev pub invariant-loop : goal.invariant-loop
invariant-loop g l = Keeps (g.W.Write.contents l.initial.writer) (g.W.Write.contents l.writer)
