use Rattle.std.proofs.Common.{ℕ, List}
use Rattle.proxy_serve_core.specs.FaultLog.{of_cause}
use Rattle.proxy_serve_core.specs.declared.fault_log.FaultCause.{FaultCause}
use Rattle.proxy_pages.specs.Lines.{fault_text}
use Rattle.proxy_pages.specs.Pages.{causes, fault_word}
use Rattle.proxy_pages.proofs.TextLemmas.{concat_more, grown}
use Rattle.proxy_pages.proofs.metrics.push_host_faults.Goals as goal

pub loop-cause-preserved : goal.loop-cause-preserved
loop-cause-preserved c =
    let line : FaultCause → List ℕ = λ cause. fault_text c.args.name.now c.args.host.now (fault_word cause) (of_cause cause c.args.faults.now).count in
    let told = rw (c.fault_word.ensures, c.of.ensures) at c.in_ok-push_fault.ensures in
    grown _ _ _ _ _ _ c.loop-cause.invariant told (concat_more line causes c.loop-cause.cause-index _ c.loop-cause-test.true)
