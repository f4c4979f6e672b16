use Rattle.std.proofs.Common.{◌<◌, ◌/◌, length, arith}
use Rattle.std.proofs.lemmas.List.{get_or_read}
use Rattle.proxy_serve_core.proofs.KeySetLemmas.{drops_key}
use Rattle.proxy_serve_core.proofs.key_set.KeySet.remove.Goals as goal

pub returns-then-index-len-clause-drops : goal.returns-then-index-len-clause-drops
returns-then-index-len-clause-drops c =
    let words = c.self.inside.words.items in
    let within : c.args.key / 64 < length words = omega (arith, c.len.ensures) in
    rw (← c.self.view_is, get_or_read words (c.args.key / 64) _ within c.index_mut.ensures.value 0) (drops_key words c.args.key within)
