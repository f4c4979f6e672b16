use Rattle.proxy_engines.proofs.LogsLemmas as lemmas
use Rattle.proxy_engines.proofs.laws.sockets_carry_logs.Goals as goal

pub returns : goal.returns
returns c = lemmas.sockets_carry_logs
