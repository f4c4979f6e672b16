use Rattle.std.proofs.Common.{◌∙◌, sym, ap, if◌then◌else◌, Some}
use Rattle.std.proofs.lemmas.Bool.{eq-eqb}
use Rattle.ejector.specs.declared.settings.Field.TheVariants.{Hosts}
use Rattle.ejector.specs.Settings.{first_failing, settings_comparisons}
use Rattle.ejector.proofs.settings.Rules.first_difference.Goals as goal

pub returns : goal.returns
returns c =
    let rest = first_failing (settings_comparisons c.args.self.now.settings c.args.other.now.settings) in
    c.first_difference.ensures ∙ ap (λ same. if same then rest else Some Hosts) (sym (eq-eqb c.args.self.now.hosts c.args.other.now.hosts c.if-self-other.false))
