use Rattle.std.proofs.Common.{refl}
use Rattle.proxy_pages.proofs.admin.Admin.new.Goals as goal

pub returns-clause-order : goal.returns-clause-order
returns-clause-order c = refl
