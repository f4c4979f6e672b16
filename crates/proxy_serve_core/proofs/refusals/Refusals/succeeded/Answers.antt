use Rattle.std.proofs.Common.{rules}
use Rattle.proxy_serve_core.proofs.refusals.Refusals.succeeded.Goals as goal

pub returns : goal.returns
returns c = search rules
