use Rattle.std.proofs.Common.{refl}
use Rattle.upstream_pipe.proofs.pipe.Pipe.new.Goals as goal

pub returns-clause-epoch : goal.returns-clause-epoch
returns-clause-epoch c = refl
