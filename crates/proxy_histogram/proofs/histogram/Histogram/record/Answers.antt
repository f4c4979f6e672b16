use Rattle.std.proofs.Common.{rules}
use Rattle.proxy_histogram.proofs.histogram.Histogram.record.Goals as goal

pub returns : goal.returns
returns c = search rules
