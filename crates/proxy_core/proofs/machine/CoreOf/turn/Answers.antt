use Rattle.std.proofs.Common.{◌∙◌, ap}
use Rattle.proxy_core.specs.declared.machine.Machine.{Machine}
use Rattle.proxy_core.proofs.turn.IsDoneLemmas.{if_cause, if_event, if_kept, if_records, if_same, if_step, proxy_of}
use Rattle.proxy_core.proofs.machine.CoreOf.turn.Goals as goal

pub invariant_of-self : goal.invariant_of-self
invariant_of-self g c = (
  if_kept c.turn.result _ c.turn.new.self c.args.pass c.args.event c.turn.ensures.answered c.turn.ensures.refused,
  if_records c.turn.result _ c.turn.new.self c.args.pass c.args.event c.turn.ensures.answered c.turn.ensures.refused
      ∙ ap (λ (m : Machine). m.journal.records) c.deref_mut.ensures.value ∙ c.self.invariant.1,
)

pub returns-clause-step : goal.returns-clause-step
returns-clause-step g c =
    if_step c.turn.result _ c.turn.new.self c.args.self.now c.args.pass c.args.event (ap proxy_of c.deref_mut.ensures.value ∙ c.self.view_is)
    c.turn.ensures.answered

pub returns-clause-legal : goal.returns-clause-legal
returns-clause-legal g c = (if_kept c.turn.result _ c.turn.new.self c.args.pass c.args.event c.turn.ensures.answered c.turn.ensures.refused).legal

pub returns-clause-event : goal.returns-clause-event
returns-clause-event g c = if_event c.turn.result _ c.turn.new.self c.args.event c.turn.ensures.refused

pub returns-clause-cause : goal.returns-clause-cause
returns-clause-cause g c =
    if_cause c.turn.result _ c.turn.new.self c.args.self.now c.args.event (ap proxy_of c.deref_mut.ensures.value ∙ c.self.view_is) c.turn.ensures.refused

pub returns-clause-err : goal.returns-clause-err
returns-clause-err g c =
    if_same c.turn.result _ c.turn.new.self c.args.self.now c.args.event (ap proxy_of c.deref_mut.ensures.value ∙ c.self.view_is) c.turn.ensures.refused
