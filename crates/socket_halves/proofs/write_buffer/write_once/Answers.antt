use Rattle.socket_halves.proofs.WriteBufferLemmas.{Keeps-write, Keeps-interrupted}
use Rattle.socket_halves.proofs.write_buffer.write_once.Goals as goal

pub loop-preserved : goal.loop-preserved
loop-preserved g c = Keeps-interrupted _ _ _ c.write-told.result c.args.bytes.now c.is_interrupted.result
    c.loop.invariant c.write-told.ensures.bytes c.is_interrupted.ensures.ok c.if-not-is_interrupted.false

pub returns-then-not-is_interrupted-clause-bytes : goal.returns-then-not-is_interrupted-clause-bytes
returns-then-not-is_interrupted-clause-bytes g c = Keeps-write _ _ _ c.write-told.result c.args.bytes.now
    c.loop.invariant c.write-told.ensures.bytes
