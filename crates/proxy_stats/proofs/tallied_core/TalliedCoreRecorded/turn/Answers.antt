use Rattle.std.proofs.Common.{◌≡◌, ◌++◌, ◌∷◌, [], List, sym, ◌∙◌, subst}
use Rattle.std.specs.Prelude.{Result, IfOk}
use Rattle.journal_core.specs.Journal.{step_by}
use Rattle.proxy_history.specs.History.{Step}
use Rattle.proxy_history.specs.declared.answer.Answer.{Answer}
use Rattle.proxy_history.specs.declared.event.Event.{Event}
use Rattle.proxy_history.specs.declared.refusal.Refusal.{Refusal}
use Rattle.proxy_stats.specs.Refusals.{AreTallied}
use Rattle.proxy_stats.specs.declared.refused_names.RefusedNames.{RefusedNames}
use Rattle.proxy_stats.specs.declared.tally.Counts.{Counts}
use Rattle.proxy_stats.proofs.RefusalLemmas.{tallied_last}
use Rattle.proxy_stats.proofs.tallied_core.TalliedCoreRecorded.turn.Goals as goal

pub invariant_of-self : goal.invariant_of-self
invariant_of-self c =
    let old : List Step = c.self.inside.core.steps in
    let steps : List Step = c.turn-result.new.self.steps in
    let step : Step = step_by c.args.pass c.args.event c.in-Ok.field-0 in
    let more : steps ≡ old ++ step ∷ [] =
    subst (λ (r : Result Answer (Refusal × Event)). IfOk r (λ a. steps ≡ old ++ step_by c.args.pass c.args.event a ∷ [])) c.in-Ok.is c.turn-result.ensures.answered in
    let last = c.journal.ensures.steps ∙ more in
    let counted = c.count_last.ensures.counts old step last in
    let noted_so = c.count_last.ensures.names old step last in
    let tallied : AreTallied old c.deref_mut.result.now c.deref_mut-in-Ok.result.now =
    subst (λ (n : Counts). AreTallied old n c.deref_mut-in-Ok.result.now) (sym c.deref_mut.ensures.value)
    (subst (λ (r : RefusedNames). AreTallied old c.self.inside.counts.value r) (sym c.deref_mut-in-Ok.ensures.value) c.self.invariant) in
    subst (λ (l : List Step). AreTallied l c.count_last.new.counts c.count_last.new.names) (sym more) (tallied_last old step _ _ _ _ tallied counted noted_so)
