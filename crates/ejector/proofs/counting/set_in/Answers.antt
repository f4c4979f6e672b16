use Rattle.std.proofs.Common.{◌<◌, length, map, false, sym, ◌∙◌, arith}
use Rattle.std.proofs.lemmas.List.{ext_get_or, get_or-map, length-map}
use Rattle.ejector.specs.State.{fresh_host}
use Rattle.ejector.specs.Counting.{is_in}
use Rattle.ejector.proofs.counting.set_in.Goals as goal

pub returns-clause-places : goal.returns-clause-places
returns-clause-places c =
    let hosts = c.args.hosts.now in
    ext_get_or false c.loop-i.places (map is_in hosts) (omega (arith, length-map hosts is_in, c.loop-i.auto.places, c.requires))
    (λ k l.
    let within : k < length hosts = omega (arith, l, c.loop-i.auto.places, c.requires) in
    c.loop-i.invariant.places k (omega (arith, within, c.loop-i-test.false)) ∙ sym (get_or-map is_in hosts k fresh_host false within))
