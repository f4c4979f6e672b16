use Rattle.proxy_engines.proofs.ClientLemmas as lemmas
use Rattle.proxy_engines.proofs.laws.accepted_are_first.Goals as goal

pub returns : goal.returns
returns c = lemmas.accepted_are_first
