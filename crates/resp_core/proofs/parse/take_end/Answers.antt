use Rattle.std.proofs.Common.{rules}
use Rattle.resp_core.specs.Reading.{end_at}
use Rattle.resp_core.proofs.parse.take_end.Goals as goal

pub returns : goal.returns
unfolding end_at
returns c = search rules
