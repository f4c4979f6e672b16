use Rattle.std.proofs.Common.{◌≤◌, ◌<◌, ◌^◌, All, reverse, length, arith}
use Rattle.std.proofs.lemmas.List.{length-reverse}
use Rattle.proxy_stats.specs.Amounts.{ejected_hosts, kept_hosts}
use Rattle.proxy_stats.specs.Sums.{AreCapped}
use Rattle.proxy_stats.proofs.SmallStepLemmas.{IsSmall, small_history, many_steps}
use Rattle.proxy_stats.proofs.ListWriteLemmas.{all_forwards}
use Rattle.proxy_stats.proofs.SumLemmas.{counts_uncapped}
use Rattle.proxy_stats.proofs.counting.counts.Goals as goal

pub returns : goal.returns
returns c =
    let steps = c.args.core.now.steps in
    let small : All IsSmall (reverse steps) = small_history c.args.core.now.setting _ c.journal.ensures.legal in
    let many : length (reverse steps) ≤ 262144 = many_steps c.args.core.now.setting _ c.journal.ensures.legal in
    let counted : AreCapped steps c.counts_of.result = rw (← c.journal.ensures.steps) c.counts_of.ensures.counts in
    let few : All (λ s. (ejected_hosts s < 2 ^ 32) × (kept_hosts s < 2 ^ 32)) steps = rw (← c.journal.ensures.steps) c.counts_of.ensures.few in
    counts_uncapped steps c.counts_of.result (omega (arith, many, length-reverse steps)) (all_forwards IsSmall steps small) few counted
