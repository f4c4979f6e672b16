use Rattle.std.proofs.Common.{rules}
use Rattle.proxy_generations.proofs.lifecycle.Generations.is_sweep_due.Goals as goal

pub returns-then-at-last : goal.returns-then-at-last
returns-then-at-last g c = search rules fits 300
