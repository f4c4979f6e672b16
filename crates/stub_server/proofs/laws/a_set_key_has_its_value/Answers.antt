use Rattle.stub_server.proofs.LookupLemmas.{value_at-with_value}
use Rattle.stub_server.proofs.laws.a_set_key_has_its_value.Goals as goal

pub returns : goal.returns
returns c = value_at-with_value
