use Rattle.std.proofs.Common.{refl, subst}
use Rattle.journal_budget.specs.Payload.{PayloadState, IsFarFromFull}
use Rattle.journal_budget.proofs.PayloadLemmas.{far_from_full}
use Rattle.journal_budget.proofs.payload.Payload.is_far_from_full.Goals as goal

pub returns-then-self-ge-FIRST_STEPS : goal.returns-then-self-ge-FIRST_STEPS
returns-then-self-ge-FIRST_STEPS c = λ yes.
    subst (λ (p : PayloadState). IsFarFromFull p c.args.owed) c.self.view_is
    (far_from_full _ _ c.args.owed c.saturating_add-then-self-ge-FIRST_STEPS.result c.if-self-ge-FIRST_STEPS.true refl refl refl refl
    c.saturating_add.ensures c.saturating_add-2.ensures c.saturating_add-then-self-ge-FIRST_STEPS.ensures (c.takes_in.ensures.0 yes))
