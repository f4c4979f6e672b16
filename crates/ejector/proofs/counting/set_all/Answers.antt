use Rattle.std.proofs.Common.{◌<◌, length, replicate, true, sym, ◌∙◌, arith}
use Rattle.std.proofs.lemmas.List.{ext_get_or, get_or-replicate, length-replicate}
use Rattle.ejector.proofs.counting.set_all.Goals as goal

pub returns : goal.returns
returns c =
    let n = length c.args.places.now in
    ext_get_or true c.loop-i.places (replicate n true) (omega (arith, length-replicate n true, c.loop-i.auto.places))
    (λ k l.
    let within : k < n = omega (arith, l, c.loop-i.auto.places) in
    c.loop-i.invariant k (omega (arith, within, c.loop-i-test.false)) ∙ sym (get_or-replicate n k true true within))
