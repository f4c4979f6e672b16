use Rattle.resp_core.proofs.SpelledCommandLemmas.{cut_is}
use Rattle.resp_core.proofs.spelled_command.split_long_bulk.Goals as goal

pub returns : goal.returns
returns c = λ s rest is few.
    let place = c.place_of-head.result in
    cut_is place.head place.len s rest c.args.bytes.now c.split_at.result.0.now c.split_at.result.1.now (c.place_of-head.ensures s rest is few) c.split_at.ensures.front c.split_at.ensures.back
