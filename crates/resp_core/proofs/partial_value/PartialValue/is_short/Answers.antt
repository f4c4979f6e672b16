use Rattle.std.proofs.Common.{◌<◌, arith, ltb-true}
use Rattle.resp_core.proofs.unfinished.PartialValueLemmas.{none_while_short}
use Rattle.resp_core.proofs.partial_value.PartialValue.is_short.Goals as goal

pub returns : goal.returns
returns c = λ short most good held r.
    let p = c.args.self.now in
    let fewer : c.len.result < p.needed = ltb-true c.len.result p.needed short in
    none_while_short most held p good (omega (arith, fewer, c.len.ensures.value)) r
