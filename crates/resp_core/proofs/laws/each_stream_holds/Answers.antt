use Rattle.resp_core.proofs.streams.StreamLawLemmas.{each_stream_holds}
use Rattle.resp_core.proofs.laws.each_stream_holds.Goals as goal

pub returns : goal.returns
returns c = each_stream_holds
