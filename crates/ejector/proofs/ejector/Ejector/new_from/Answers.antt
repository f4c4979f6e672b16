use Rattle.std.proofs.Common.{◌≡◌, sym, ap, ◌∙◌, subst}
use Rattle.ejector.specs.Ejector.{Ejection}
use Rattle.ejector.specs.Opening.{IsOpening}
use Rattle.ejector.specs.Settings.{first_fault}
use Rattle.ejector.proofs.ejector.Ejector.new_from.Goals as goal

pub invariant_of-result : goal.invariant_of-result
invariant_of-result c =
    let made : _ ≡ c.args.from =
    λ i. record { rules = c.rules.ensures.rules i; state = record { clock = c.clock.ensures i; hosts = (c.in_ok-from_slice.ensures.items ∙ c.hosts.ensures) i } } in
    (ap first_fault c.rules.ensures.rules ∙ c.rules.ensures.range, subst (λ (e : Ejection). IsOpening e.rules e.state) (sym made) c.rules.ensures.opening)

pub returns-clause-made : goal.returns-clause-made
returns-clause-made c =
    λ i. record { rules = c.rules.ensures.rules i; state = record { clock = c.clock.ensures i; hosts = (c.in_ok-from_slice.ensures.items ∙ c.hosts.ensures) i } }
