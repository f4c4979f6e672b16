use Rattle.std.specs.Option.{option_copied}
use Rattle.std.proofs.Common.{◌∙◌, ap, sym}
use Rattle.proxy_connections.proofs.StalledLemmas.{most_takes}
use Rattle.proxy_connections.proofs.stalled.more_stalled.Goals as goal

pub returns : goal.returns
returns c = λ most.
    rw c.stalled_bytes-bytes.ensures
    (most_takes _ _ _ c.args.most most c.in-Some.client.now (sym c.get.ensures ∙ ap option_copied c.in-Some.is)
    (rw c.stalled_bytes-bytes.ensures at c.if-bytes-most.false))
