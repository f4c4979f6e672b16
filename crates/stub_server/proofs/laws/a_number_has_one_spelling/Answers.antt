use Rattle.stub_server.proofs.NumberLemmas.{number_in-spelling, spelling-number_in}
use Rattle.stub_server.proofs.laws.a_number_has_one_spelling.Goals as goal

pub returns : goal.returns
returns c = λ bytes n. (spelling-number_in bytes n, λ h. number_in-spelling bytes n h.0 h.1)
