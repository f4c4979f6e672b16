use Rattle.proxy_engines.proofs.ClientLemmas as lemmas
use Rattle.proxy_engines.proofs.SocketLemmas.{socket_closes, socket_closes_answered}
use Rattle.proxy_engines.proofs.laws.refused_close.Goals as goal

pub returns : goal.returns
returns c = record {
  closes = lemmas.refused_close;
  answered = lemmas.ended_is_answered;
  socket_closes = socket_closes;
  socket_answered = socket_closes_answered;
}
