use Rattle.std.proofs.Common.{ap, ◌∙◌, sym, subst, replicate}
use Rattle.ejector.specs.declared.settings.Rules.{Rules}
use Rattle.proxy_core.specs.Connections.{ConnectionTable}
use Rattle.proxy_core.specs.Machine.{IsKept}
use Rattle.proxy_core.specs.Pipelines.{no_pipeline}
use Rattle.proxy_core.specs.declared.machine.Machine.{Machine}
use Rattle.proxy_core.proofs.turn.FreshMachine.{fresh_kept}
use Rattle.proxy_core.proofs.machine.CoreOf.with.Goals as goal

pub invariant_of-result : goal.invariant_of-result
invariant_of-result g c =
    let hosts = ap (λ (z : Rules). z.hosts) c.rules-rules.ensures.rules ∙ c.requires in (
      subst IsKept (sym c.in-Ok.ensures.ok)
          (fresh_kept _ c.new_journal-journal.ensures.steps c.new_journal-journal.ensures.bytes
          (ap (λ (t : ConnectionTable). t.numbered) c.new-2.ensures) (ap (λ (t : ConnectionTable). t.closed) c.new-2.ensures)
          (c.in_ok-pipelines.ensures ∙ ap (λ n. replicate n no_pipeline) hosts)
          c.requires c.of.ensures c.rules-rules.ensures.range c.rules-rules.ensures.opening),
      ap (λ (m : Machine). m.journal.records) c.in-Ok.ensures.ok ∙ c.new_journal-journal.ensures.records ∙ c.keeps_all.ensures,
    )
