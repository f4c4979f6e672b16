use Rattle.proxy_engines.proofs.LogsLemmas as lemmas
use Rattle.proxy_engines.proofs.laws.clients_carry_logs.Goals as goal

pub returns : goal.returns
returns c = lemmas.clients_carry_logs
