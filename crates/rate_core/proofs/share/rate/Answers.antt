use Rattle.std.proofs.Common.{rules}
use Rattle.rate_core.proofs.share.rate.Goals as goal

pub returns-clause-value : goal.returns-clause-value
returns-clause-value c = search rules
