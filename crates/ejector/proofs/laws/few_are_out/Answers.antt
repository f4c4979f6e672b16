use Rattle.ejector.proofs.OpeningLemmas.{state_out}
use Rattle.ejector.proofs.laws.few_are_out.Goals as goal

pub returns : goal.returns
returns c = λ R O later before all w e. state_out R O before w
