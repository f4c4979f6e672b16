use Rattle.std.proofs.Common.{sym, ap}
use Rattle.resp_core.specs.Stream.{told_offset}
use Rattle.splitter.specs.Request.{length_of}
use Rattle.splitter.proofs.request.Request.text_len.Goals as goal

pub returns-in-Broken : goal.returns-in-Broken
returns-in-Broken c = ap (λ r. told_offset (length_of r)) (sym c.in-Broken.is)
