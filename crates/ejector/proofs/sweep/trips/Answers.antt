use Rattle.std.proofs.Common.{nat_le, sym, ap, ◌∙◌}
use Rattle.ejector.proofs.RateLemmas.{length-known}
use Rattle.ejector.proofs.sweep.trips.Goals as goal

pub returns-then-enough : goal.returns-then-enough
returns-then-enough c =
    let enough = ap (nat_le c.args.rules.now.settings.success_hosts) (length-known c.args.rates.now) ∙ sym c.requires.enough ∙ c.if-enough.true in
    rw enough c.is_outlier.ensures

pub returns-else-enough : goal.returns-else-enough
returns-else-enough c =
    let enough = ap (nat_le c.args.rules.now.settings.success_hosts) (length-known c.args.rates.now) ∙ sym c.requires.enough ∙ c.if-enough.false in
    rw enough c.if-enough.false
