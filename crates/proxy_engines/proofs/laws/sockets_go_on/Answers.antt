use Rattle.proxy_engines.proofs.SocketLemmas.{socket_begins, socket_moves, socket_stays, socket_goes_over, socket_asks_in_order, socket_answers_in_order, socket_ends_whole}
use Rattle.proxy_engines.proofs.laws.sockets_go_on.Goals as goal

pub returns : goal.returns
returns c = record {
  begins = socket_begins;
  moves = socket_moves;
  stays = socket_stays;
  goes_over = socket_goes_over;
  asks = socket_asks_in_order;
  answers = socket_answers_in_order;
  ends = socket_ends_whole;
}
