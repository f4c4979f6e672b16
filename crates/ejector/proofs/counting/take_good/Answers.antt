use Rattle.std.proofs.Common.{rules}
use Rattle.ejector.proofs.counting.take_good.Goals as goal

pub returns : goal.returns
returns c = search rules
