use Rattle.proxy_engines.proofs.ClientLemmas as lemmas
use Rattle.proxy_engines.proofs.laws.ended_is_whole.Goals as goal

pub returns : goal.returns
returns c = record { whole = lemmas.ended_is_whole; over = lemmas.ended_is_over }
