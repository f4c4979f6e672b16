use Rattle.socket_halves.proofs.WriteBufferLemmas.{Accepts-then}
use Rattle.socket_halves.proofs.write_buffer.WriteBuffer.write_long.Goals as goal

pub returns-clause-accepts : goal.returns-clause-accepts
returns-clause-accepts g c = Accepts-then c.args.self.now c.write_gathered.new.self c.write_through.new.self c.args.bytes.now
    c.write_through.result c.write_gathered.ensures.goes_out c.write_through.ensures.accepts
