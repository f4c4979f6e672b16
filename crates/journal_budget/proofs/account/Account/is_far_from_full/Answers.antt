use Rattle.std.proofs.Common.{rules, subst}
use Rattle.journal_budget.specs.Account.{AccountState, known, owed_steps}
use Rattle.journal_budget.specs.Payload.{HasRoomForCommand, HasRoomForReply}
use Rattle.journal_budget.proofs.FarLemmas.{far_for_command, far_for_reply}
use Rattle.journal_budget.proofs.account.Account.is_far_from_full.Goals as goal

pub returns-then-self-le-FAR_STEPS-clause-command :
    goal.returns-then-self-le-FAR_STEPS-clause-command
returns-then-self-le-FAR_STEPS-clause-command c far =
    let a = c.self.inside in
    subst (λ (b : AccountState). HasRoomForCommand (known b) (owed_steps b) c.args.unfinished) c.self.view_is
    (far_for_command a.reported.payload a.bytes a.reported.owed a.cost a.steps c.args.unfinished
    c.is_far.ensures.in_range (c.is_far.ensures.far far) (search rules) (search rules) (search rules) (search rules) (search rules))

pub returns-then-self-le-FAR_STEPS-clause-reply :
    goal.returns-then-self-le-FAR_STEPS-clause-reply
returns-then-self-le-FAR_STEPS-clause-reply c far =
    let a = c.self.inside in
    subst (λ (b : AccountState). HasRoomForReply (known b) c.args.unfinished) c.self.view_is
    (far_for_reply a.reported.payload a.bytes a.reported.owed c.args.unfinished
    c.is_far.ensures.in_range (c.is_far.ensures.far far) (search rules) (search rules) (search rules) (search rules))
