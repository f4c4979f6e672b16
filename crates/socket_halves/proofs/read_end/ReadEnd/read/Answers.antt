use Rattle.std.proofs.Common.{rules}
use Rattle.socket_halves.proofs.ReadEndLemmas.{reads_end}
use Rattle.socket_halves.proofs.read_end.ReadEnd.read.Goals as goal

pub returns-clause-reads : goal.returns-clause-reads
returns-clause-reads g c = reads_end c.args.self.now c.receive-received.new.self c.end_where_it_pauses-delivered.new.self c.note_delivered.new.self
    (g.R.Read.remaining c.args.reader.now) (g.R.Read.remaining c.receive-received.new.reader) _ c.receive-received.new.buffer
    c.receive-received.auto.buffer (search rules) c.end_where_it_pauses-delivered.ensures.kept
    c.receive-received.result c.end_where_it_pauses-delivered.result
    c.receive-received.ensures.receives c.receive-received.ensures.idle c.end_where_it_pauses-delivered.ensures.ok
    c.end_where_it_pauses-delivered.ensures.err c.end_where_it_pauses-delivered.ensures.left
    c.note_delivered.ensures.ok c.note_delivered.ensures.err
