use Rattle.proxy_engines.proofs.FlushLemmas.{flushed_goes}
use Rattle.proxy_engines.proofs.client.ClientEngine.flush.Goals as goal

pub returns-clause-goes : goal.returns-clause-goes
returns-clause-goes g c = λ H. rw (← c.self.view_is) (flushed_goes _ c.flush.new.self H c.flush.ensures.pending c.flush.ensures.held c.flush.ensures.taken)
