use Rattle.resp_core.proofs.refusals.ToldNumberLemmas.{one_number}
use Rattle.resp_core.proofs.streams.StreamLawLemmas.{one_refused_byte, one_refusal}
use Rattle.resp_core.proofs.laws.one_refusal.Goals as goal

pub returns-clause-byte : goal.returns-clause-byte
returns-clause-byte c = one_refused_byte

pub returns-clause-number : goal.returns-clause-number
returns-clause-number c = one_number

pub returns-clause-refusal : goal.returns-clause-refusal
returns-clause-refusal c = one_refusal
