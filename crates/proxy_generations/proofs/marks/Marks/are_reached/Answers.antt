use Rattle.std.proofs.Common.{rules}
use Rattle.proxy_generations.proofs.marks.Marks.are_reached.Goals as goal

pub returns-else-steps-self : goal.returns-else-steps-self
returns-else-steps-self c = search rules
