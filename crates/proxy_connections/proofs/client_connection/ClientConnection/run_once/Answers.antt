use Rattle.proxy_engines.proofs.CallerLemmas.{KeepsSocket-same}
use Rattle.proxy_connections.proofs.StageLemmas.{KeepsSocket-passes_on}
use Rattle.proxy_connections.proofs.client_connection.ClientConnection.run_once.Goals.{in-Served, in-Served-2+in_ok-step_and_write-in-Served-2, in-Leaving, in-Lingering}
use Rattle.proxy_connections.proofs.client_connection.ClientConnection.run_once.Goals as goal

pub returns-clause-keeps : goal.returns-clause-keeps
returns-clause-keeps g c =
    rw (c.finish_closing.ensures.engine, c.note_rest.ensures.engine, c.note_waiting.ensures.engine) (elim c.match-self.branch [
      | in-Served w ↦ rw w.self-is (rw w.turns-is (KeepsSocket-passes_on _ _ _ w.relieve.ensures.engine))
      | in-Served-2+in_ok-step_and_write-in-Served-2 w ↦ rw w.self-is (rw w.turns-is w.step_and_write.ensures.keeps)
      | in-Leaving w ↦ rw w.self-is (rw w.turns-is (KeepsSocket-passes_on _ _ _ w.write_out.ensures.engine))
      | in-Lingering w ↦ rw w.self-is (rw w.turns-is (KeepsSocket-same _ _))
    ])

pub returns-then-may_carry_over-clause-keeps : goal.returns-then-may_carry_over-clause-keeps
returns-then-may_carry_over-clause-keeps g c =
    rw (c.note_rest.ensures.engine, c.note_waiting.ensures.engine) (elim c.match-self.branch [
      | in-Served w ↦ rw w.self-is (rw w.turns-is (KeepsSocket-passes_on _ _ _ w.relieve.ensures.engine))
      | in-Served-2+in_ok-step_and_write-in-Served-2 w ↦ rw w.self-is (rw w.turns-is w.step_and_write.ensures.keeps)
      | in-Leaving w ↦ rw w.self-is (rw w.turns-is (KeepsSocket-passes_on _ _ _ w.write_out.ensures.engine))
      | in-Lingering w ↦ rw w.self-is (rw w.turns-is (KeepsSocket-same _ _))
    ])
