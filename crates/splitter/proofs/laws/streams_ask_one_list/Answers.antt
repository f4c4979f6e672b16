use Rattle.splitter.proofs.RequestLemmas.{each_stream_asks, one_asking}
use Rattle.splitter.proofs.laws.streams_ask_one_list.Goals as goal

pub returns-clause-some : goal.returns-clause-some
returns-clause-some c = each_stream_asks

pub returns-clause-one : goal.returns-clause-one
returns-clause-one c = one_asking
