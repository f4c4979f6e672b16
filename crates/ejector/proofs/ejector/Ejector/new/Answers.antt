use Rattle.std.proofs.Common.{◌≡◌, None, refl, sym, ap, ◌∙◌, subst}
use Rattle.std.proofs.lemmas.List.{take-replicate}
use Rattle.ejector.specs.declared.settings.Rules.{Rules}
use Rattle.ejector.specs.Settings.{first_fault}
use Rattle.ejector.specs.Opening.{IsOpening}
use Rattle.ejector.specs.State.{fresh_host}
use Rattle.ejector.proofs.SettingsRangeLemmas.{few_hosts}
use Rattle.ejector.proofs.OpeningLemmas.{fresh_opening}
use Rattle.ejector.proofs.ejector.Ejector.new.Goals as goal

pub invariant_of-result : goal.invariant_of-result
invariant_of-result c =
    let R : Rules = record { hosts = c.args.n; settings = c.args.settings } in
    let fault : first_fault R ≡ None = sym c.first_fault.ensures ∙ c.in_default.is in
    let hosts = c.in_ok-from_slice.ensures.items ∙ take-replicate c.args.n 64 fresh_host (few_hosts R fault) in
    (fault, subst (IsOpening R) (ap (λ hs. record { clock = 0; hosts = hs }) (sym hosts)) (fresh_opening R))

pub returns-clause-made : goal.returns-clause-made
returns-clause-made c =
    let R : Rules = record { hosts = c.args.n; settings = c.args.settings } in
    let fault : first_fault R ≡ None = sym c.first_fault.ensures ∙ c.in_default.is in
    let hosts = c.in_ok-from_slice.ensures.items ∙ take-replicate c.args.n 64 fresh_host (few_hosts R fault) in
    (refl, ap (λ hs. record { clock = 0; hosts = hs }) hosts)
