use Rattle.std.proofs.Common.{sym, ap, ◌∙◌, subst}
use Rattle.proxy_history.specs.Proxy.{Proxy}
use Rattle.proxy_stats.specs.Counts.{counts_of}
use Rattle.proxy_stats.specs.Sums.{AreCounts}
use Rattle.proxy_stats.specs.declared.tally.Counts.{Counts}
use Rattle.proxy_stats.proofs.CountLemmas.{kept_sums, kept_value}
use Rattle.proxy_stats.proofs.tallied_core.TalliedCore.counts.Goals as goal

pub returns-clause-sums : goal.returns-clause-sums
returns-clause-sums c =
    let k = c.self.inside.core in
    let n = c.self.inside.counts.value in
    let sums : AreCounts k.steps n = kept_sums k n c.journal-journal.ensures.legal c.self.invariant.counts in
    subst (λ (j : Proxy). AreCounts j.steps c.deref.result.now) c.self.view_is (subst (λ (m : Counts). AreCounts k.steps m) (sym c.deref.ensures) sums)

pub returns-clause-value : goal.returns-clause-value
returns-clause-value c =
    c.deref.ensures
    ∙ kept_value c.self.inside.core c.self.inside.counts.value c.journal-journal.ensures.legal c.self.invariant.counts
    ∙ ap (λ (j : Proxy). counts_of j.steps) c.self.view_is
