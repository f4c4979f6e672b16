use Rattle.std.proofs.Common.{arith}
use Rattle.proxy_serve_core.proofs.KeySetLemmas.{joins_keys}
use Rattle.proxy_serve_core.proofs.key_set.join.Goals as goal

pub returns : goal.returns
returns c =
    joins_keys c.args.words.now c.args.others.now c.loop-index.words
    (λ j within. c.loop-index.invariant.0 j (omega arith))
    (λ j past. c.loop-index.invariant.1 j (omega arith))
