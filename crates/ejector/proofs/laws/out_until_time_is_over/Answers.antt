use Rattle.ejector.proofs.HostLemmas.{out_until}
use Rattle.ejector.proofs.laws.out_until_time_is_over.Goals as goal

pub returns : goal.returns
returns c = out_until
