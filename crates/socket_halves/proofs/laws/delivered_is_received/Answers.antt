use Rattle.socket_halves.proofs.ReadEndLemmas as lemmas
use Rattle.socket_halves.proofs.laws.delivered_is_received.Goals as goal

pub returns : goal.returns
returns c = lemmas.delivered_is_received
