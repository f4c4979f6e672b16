use Rattle.std.proofs.Common.{[], sym, subst}
use Rattle.resp_core.specs.PartialValue.{IsGood, Reads}
use Rattle.resp_core.proofs.partial_value.PartialValue.begin_anew.Goals as goal

pub returns-clause-good : goal.returns-clause-good
returns-clause-good c = λ most. subst (IsGood most) (sym c.replace.ensures.after) (c.new.ensures.good most)

pub returns-clause-reads : goal.returns-clause-reads
returns-clause-reads c = λ most. subst (Reads most []) (sym c.replace.ensures.after) (c.new.ensures.reads most)
