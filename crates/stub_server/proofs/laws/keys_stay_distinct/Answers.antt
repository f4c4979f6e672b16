use Rattle.stub_server.proofs.LookupLemmas.{distinct-map_after}
use Rattle.stub_server.proofs.laws.keys_stay_distinct.Goals as goal

pub returns : goal.returns
returns c = distinct-map_after
