use Rattle.std.proofs.Common.{rules}
use Rattle.ejector.proofs.counting.take_bad.Goals as goal

pub returns-else-may-clause-hosts : goal.returns-else-may-clause-hosts
returns-else-may-clause-hosts c = search rules

pub returns-else-may-clause-trip : goal.returns-else-may-clause-trip
returns-else-may-clause-trip c = search rules
