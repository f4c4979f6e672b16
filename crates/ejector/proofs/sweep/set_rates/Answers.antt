use Rattle.std.proofs.Common.{◌<◌, length, map, None, sym, ◌∙◌, arith}
use Rattle.std.proofs.lemmas.List.{ext_get_or, get_or-map, get_or_default, length-map}
use Rattle.ejector.specs.State.{fresh_host}
use Rattle.ejector.specs.Counting.{rate_then}
use Rattle.ejector.proofs.sweep.set_rates.Goals as goal

pub returns-clause-value : goal.returns-clause-value
returns-clause-value c =
    let hosts = c.args.hosts.now in
    ext_get_or None c.loop-i.rates (map (rate_then c.args.rules.now) hosts) (omega (arith, length-map hosts (rate_then c.args.rules.now), c.loop-i.auto.rates, c.requires.same))
    (λ k l.
    let within : k < length hosts = omega (arith, l, c.loop-i.auto.rates, c.requires.same) in
    c.loop-i.invariant.value k (omega (arith, within, c.loop-i-test.false)) ∙ sym (get_or-map (rate_then c.args.rules.now) hosts k fresh_host None within))

pub returns-clause-within : goal.returns-clause-within
returns-clause-within c k d l =
    let within : k < length c.args.hosts.now = omega (arith, l, c.loop-i.auto.rates, c.requires.same) in
    rw (get_or_default c.loop-i.rates k d None l) (c.loop-i.invariant.within k (omega (arith, within, c.loop-i-test.false)))
