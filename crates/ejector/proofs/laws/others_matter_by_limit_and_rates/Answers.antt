use Rattle.ejector.proofs.HostLemmas.{others_matter}
use Rattle.ejector.proofs.laws.others_matter_by_limit_and_rates.Goals as goal

pub returns : goal.returns
returns c = others_matter
