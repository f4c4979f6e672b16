use Rattle.std.proofs.Common.{rules}
use Rattle.resp_core.proofs.text.put_bulk.Goals as goal

pub returns-clause-ok : goal.returns-clause-ok
returns-clause-ok c = search rules
