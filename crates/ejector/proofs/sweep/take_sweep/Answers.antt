use Rattle.std.proofs.Common.{ℕ, List, Option, count_by, refl, ap, ◌∙◌}
use Rattle.std.specs.List.{range_with_len}
use Rattle.ejector.specs.declared.host.HostState.{HostState}
use Rattle.ejector.specs.Sweeps.{trips_by}
use Rattle.ejector.specs.Counting.{is_ejected_at, is_kept_at, tripping_of, outs}
use Rattle.ejector.proofs.CountingLemmas.{shares_back}
use Rattle.ejector.proofs.sweep.take_sweep.Goals as goal

pub set_rates-requires-clause-share : goal.set_rates-requires-clause-share
set_rates-requires-clause-share c =
    let back = shares_back c.args.rules.now c.args.now c.args.hosts.now c.requires.share in
    rw (c.return_hosts-returned.ensures.hosts) back

pub returns-clause-swept : goal.returns-clause-swept
returns-clause-swept c =
    let R = c.args.rules.now in
    let back = c.return_hosts-returned.new.hosts in
    let ejected =
    c.trip_outliers-ejected.ensures.ejected
    ∙ ap (λ (rates : List (Option ℕ)). count_by (is_ejected_at R (trips_by R rates) (outs back)) (range_with_len 0 R.hosts)) c.set_rates.ensures.value
    ∙ ap (λ (hosts : List HostState). count_by (is_ejected_at R (tripping_of R hosts) (outs hosts)) (range_with_len 0 R.hosts)) c.return_hosts-returned.ensures.hosts in
    let kept =
    c.trip_outliers-ejected.ensures.kept
    ∙ ap (λ (rates : List (Option ℕ)). count_by (is_kept_at R (trips_by R rates) (outs back)) (range_with_len 0 R.hosts)) c.set_rates.ensures.value
    ∙ ap (λ (hosts : List HostState). count_by (is_kept_at R (tripping_of R hosts) (outs hosts)) (range_with_len 0 R.hosts)) c.return_hosts-returned.ensures.hosts in
    rw (c.return_hosts-returned.ensures.count, ejected, kept) refl
