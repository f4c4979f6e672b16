use Rattle.std.proofs.Common.{sym, ap}
use Rattle.upstream_pipe.specs.Refusal.{number_of}
use Rattle.upstream_pipe.proofs.refusal.PipeRefusal.number.Goals as goal

pub returns-in-Full : goal.returns-in-Full
returns-in-Full c = ap number_of (sym c.in-Full.is)
