use Rattle.std.proofs.Common.{[], refl}
use Rattle.resp_core.proofs.unfinished.PartialValueLemmas.{reads_shown}
use Rattle.resp_core.proofs.reader.Reader.new.Goals as goal

pub invariant_of-result : goal.invariant_of-result
invariant_of-result c = (c.new.ensures.good c.args.limits.array, record { held = []; reads = c.new.ensures.reads c.args.limits.array })

pub returns-clause-stands : goal.returns-clause-stands
returns-clause-stands c = record {
  rest = [];
  splits = refl;
  reads = reads_shown c.args.limits.array [] c.new.result (c.new.ensures.reads c.args.limits.array);
  consumed_is = refl;
  told = tt;
}
