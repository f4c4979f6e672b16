use Rattle.std.proofs.Common.{rules}
use Rattle.ejector.proofs.settings.Rules.first_fault.Goals as goal

pub returns : goal.returns
returns c = search rules
