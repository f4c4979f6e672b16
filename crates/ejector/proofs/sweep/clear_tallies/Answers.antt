use Rattle.std.proofs.Common.{get_or, set, ap, ◌∙◌}
use Rattle.list_lemmas.proofs.CallerLemmas.{get_or-mapped_to, set-mapped_to}
use Rattle.ejector.specs.State.{fresh_host}
use Rattle.ejector.specs.Counting.{in_new_interval}
use Rattle.ejector.proofs.sweep.clear_tallies.Goals as goal

pub loop-host-preserved : goal.loop-host-preserved
loop-host-preserved c =
    let xs = c.args.hosts.now in
    let i = c.loop-host.host-index in
    let here = ap (λ ys. get_or ys i fresh_host) c.loop-host.invariant ∙ get_or-mapped_to in_new_interval xs i fresh_host in
    ap (λ s. set c.loop-host.hosts i (in_new_interval s)) here ∙ ap (λ ys. set ys i (in_new_interval (get_or xs i fresh_host))) c.loop-host.invariant
    ∙ set-mapped_to in_new_interval xs i fresh_host c.loop-host-test.true
