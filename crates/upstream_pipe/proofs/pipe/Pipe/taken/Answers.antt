use Rattle.std.proofs.Common.{ap}
use Rattle.upstream_pipe.specs.Pipe.{PipeState}
use Rattle.upstream_pipe.proofs.pipe.Pipe.taken.Goals as goal

pub returns : goal.returns
returns c = ap (λ (p : PipeState). p.taken) c.self.view_is
