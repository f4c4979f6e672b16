use Rattle.std.proofs.Common.{inr, refl}
use Rattle.proxy_config.proofs.table.told_of.Goals as goal

pub returns : goal.returns
returns c = inr (λ is. let told = c.is_memory.ensures.1 is in let other = c.if-is_memory.false in cc, refl)
