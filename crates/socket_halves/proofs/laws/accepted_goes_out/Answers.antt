use Rattle.socket_halves.proofs.WriteBufferLemmas as lemmas
use Rattle.socket_halves.proofs.laws.accepted_goes_out.Goals as goal

pub returns : goal.returns
returns c = lemmas.accepted_goes_out
