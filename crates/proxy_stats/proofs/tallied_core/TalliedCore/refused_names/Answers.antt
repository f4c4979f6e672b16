use Rattle.std.proofs.Common.{ap, sym, ◌∙◌, subst}
use Rattle.proxy_history.specs.Proxy.{Proxy}
use Rattle.proxy_stats.specs.RefusedNames.{AreNamesOf}
use Rattle.proxy_stats.specs.Refusals.{refused_in, refused_names_of}
use Rattle.proxy_stats.specs.declared.refused_names.RefusedNames.{RefusedNames}
use Rattle.proxy_stats.proofs.RefusalLemmas.{names_mean}
use Rattle.proxy_stats.proofs.tallied_core.TalliedCore.refused_names.Goals as goal

pub returns-clause-names : goal.returns-clause-names
returns-clause-names c =
    let k = c.self.inside.core in
    let r = c.self.inside.names.value in
    let mean : AreNamesOf (refused_in k.steps) r = names_mean k r c.journal-journal.ensures.legal c.self.invariant.names in
    subst (λ (j : Proxy). AreNamesOf (refused_in j.steps) c.deref.result.now) c.self.view_is (subst (λ (n : RefusedNames). AreNamesOf (refused_in k.steps) n) (sym c.deref.ensures) mean)

pub returns-clause-value : goal.returns-clause-value
returns-clause-value c = c.deref.ensures ∙ c.self.invariant.names ∙ ap (λ (j : Proxy). refused_names_of j.steps) c.self.view_is
