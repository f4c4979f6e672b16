use Rattle.std.proofs.Common.{get_or, sym, ap, ◌∙◌, arith}
use Rattle.std.proofs.lemmas.List.Sums.{count_by_more_yes, count_by_more_no}
use Rattle.list_lemmas.proofs.CallerLemmas.{get_or-mapped_to, set-mapped_to}
use Rattle.ejector.specs.State.{fresh_host}
use Rattle.ejector.specs.Counting.{with_return, is_returning}
use Rattle.ejector.proofs.sweep.return_hosts.Goals as goal
use Rattle.ejector.proofs.sweep.return_hosts.Goals.{then-is_returning, else-is_returning}

pub loop-host-preserved : goal.loop-host-preserved
loop-host-preserved c =
    let inv = c.loop-host.invariant in
    let xs = c.args.hosts.now in
    let i = c.loop-host.host-index in
    let change = with_return c.args.rules.now c.args.now in
    let here = ap (λ ys. get_or ys i fresh_host) inv.hosts ∙ get_or-mapped_to change xs i fresh_host in
    let returning = c.is_returning.ensures ∙ ap (is_returning c.args.rules.now c.args.now) here in
    record {
      hosts = rw (c.with_return.ensures, here, inv.hosts) (set-mapped_to change xs i fresh_host c.loop-host-test.true);
      count = elim c.if-is_returning.branch [
        | then-is_returning w ↦
            omega (arith, w.returned-is, inv.count, count_by_more_yes (is_returning c.args.rules.now c.args.now) xs i fresh_host c.loop-host-test.true (sym returning ∙ w.if-is_returning.true))
        | else-is_returning w ↦
            omega (arith, w.returned-is, inv.count, count_by_more_no (is_returning c.args.rules.now c.args.now) xs i fresh_host c.loop-host-test.true (sym returning ∙ w.if-is_returning.false))
      ];
      few = elim c.if-is_returning.branch [ then-is_returning w ↦ omega (arith, w.returned-is, inv.few) | else-is_returning w ↦ omega (arith, w.returned-is, inv.few) ];
    }
