use Rattle.proxy_generations.proofs.HistoryLemmas.{ordered}
use Rattle.proxy_generations.proofs.LawLemmas.{open_have_connections, few_drain, drain_in_order, opens_in_turn, oldest_is_in_the_way, given_up_if_near, stops_if_full, one_is_open}
use Rattle.proxy_generations.proofs.laws.generations_follow.Goals as goal

pub returns : goal.returns
returns g c = record {
  connections = open_have_connections;
  few = few_drain;
  in_order = drain_in_order;
  one_is_open = one_is_open;
  hands_over = λ es h. (ordered es h).by_newest;
  in_turn = opens_in_turn;
  oldest = oldest_is_in_the_way;
  given_up = given_up_if_near;
  stops = stops_if_full;
}
