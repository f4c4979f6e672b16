use Rattle.std.proofs.Common.{◌∙◌, ap}
use Rattle.std.specs.Prelude.{nat_lt}
use Rattle.test_reference.specs.Scan.{is_wanted, history_of}
use Rattle.test_reference.proofs.EventYieldLemmas.{has-times}
use Rattle.test_reference.proofs.scan.has.Goals as goal

pub returns : goal.returns
returns c = ap (nat_lt 0) c.times.ensures ∙ has-times (is_wanted c.args.wanted) (history_of c.args.steps.now)
