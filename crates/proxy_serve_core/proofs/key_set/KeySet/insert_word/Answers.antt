use Rattle.std.proofs.Common.{◌<◌, length, arith}
use Rattle.std.proofs.lemmas.List.{get_or_read}
use Rattle.proxy_serve_core.proofs.KeySetLemmas.{adds_word}
use Rattle.proxy_serve_core.proofs.key_set.KeySet.insert_word.Goals as goal

pub returns-clause-adds : goal.returns-clause-adds
returns-clause-adds c =
    let words = c.self.inside.words.items in
    let within : c.args.index < length words = omega (arith, c.len.ensures) in
    rw (← c.self.view_is, get_or_read words c.args.index _ within c.index_mut.ensures.value 0) (adds_word words c.args.index c.args.bits within)
