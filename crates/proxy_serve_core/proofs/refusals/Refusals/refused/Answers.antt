use Rattle.std.proofs.Common.{rules}
use Rattle.proxy_serve_core.proofs.refusals.Refusals.refused.Goals as goal

pub returns-clause-ends : goal.returns-clause-ends
returns-clause-ends c = search rules
