use Rattle.std.proofs.Common.{[], List, sym, ap, ◌∙◌, subst}
use Rattle.proxy_history.specs.History.{Step}
use Rattle.proxy_stats.specs.Counts.{AreKept}
use Rattle.proxy_stats.specs.Refusals.{refused_names_of}
use Rattle.proxy_stats.specs.declared.tally.Counts.{Counts}
use Rattle.proxy_stats.proofs.tallied_core.TalliedCore.new.Goals as goal

pub invariant_of-result : goal.invariant_of-result
invariant_of-result c = record {
  counts =
      subst (λ (steps : List Step). AreKept steps c.in-Some.counts.value) (sym c.requires)
      (subst (λ (n : Counts). AreKept [] n) (sym c.in-Some.ensures) c.counts_of_nothing.ensures);
  names = c.in-Some-boxed.ensures ∙ c.no_refused_names.ensures ∙ ap refused_names_of (sym c.requires);
}
