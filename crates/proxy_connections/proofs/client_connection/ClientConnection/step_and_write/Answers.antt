use Rattle.proxy_engines.proofs.CallerLemmas.{KeepsSocket-then}
use Rattle.proxy_connections.proofs.StageLemmas.{KeepsSocket-passes_on}
use Rattle.proxy_connections.proofs.client_connection.ClientConnection.step_and_write.Goals as goal

pub returns-clause-keeps : goal.returns-clause-keeps
returns-clause-keeps g c =
    rw (c.lower_charge.ensures.turns, c.leave_with_counts-counts.ensures.turns, ← c.lend_buffer.ensures.engine, ← c.set_bound.ensures.engine)
    (KeepsSocket-then _ _ _ _ _ _ c.step_engine-stepped.ensures.keeps
    (KeepsSocket-then _ _ _ _ _ _
    (KeepsSocket-passes_on _ _ _ (rw (c.lower_charge.ensures.engine, c.note_replies.ensures.engine) at c.count_unfinished_bytes.ensures.engine))
    (KeepsSocket-passes_on _ _ _ c.write_out.ensures.engine)))
