use Rattle.std.proofs.Common.{rules}
use Rattle.proxy_generations.proofs.marks.Marks.are_near.Goals as goal

pub returns-else-three_quarters-steps : goal.returns-else-three_quarters-steps
returns-else-three_quarters-steps c = search rules
