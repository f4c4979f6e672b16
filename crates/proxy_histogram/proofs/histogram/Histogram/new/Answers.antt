use Rattle.std.proofs.Common.{rules}
use Rattle.proxy_histogram.proofs.histogram.Histogram.new.Goals as goal

pub returns : goal.returns
returns c = search rules
