use Rattle.stub_server.proofs.LookupLemmas.{value_at-without}
use Rattle.stub_server.proofs.laws.a_removed_key_has_no_value.Goals as goal

pub returns : goal.returns
returns c = value_at-without
