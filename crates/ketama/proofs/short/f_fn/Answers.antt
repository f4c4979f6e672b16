use Rattle.ketama.proofs.ShortLemmas.{f_fn_shorter}
use Rattle.std.proofs.Common.{arith}
use Rattle.ketama.proofs.short.f_fn.Goals as goal

pub returns : goal.returns
returns c = f_fn_shorter c.args.x c.args.y c.args.z (omega arith) (omega arith) (omega arith)
