use Rattle.std.proofs.Common.{◌≤◌, length, sym, ap, ◌∙◌, subst}
use Rattle.reply_queue.specs.Queue.{QueueState}
use Rattle.reply_queue.proofs.queue.Queue.left.Goals as goal

pub returns-clause-commands : goal.returns-clause-commands
returns-clause-commands c = c.len.ensures ∙ c.self.inside.commands.ok.0 ∙ ap (λ (q : QueueState). length q.commands) c.self.view_is

pub returns-clause-limit : goal.returns-clause-limit
returns-clause-limit c = subst (λ n. n ≤ 1024) (sym c.len.ensures) c.self.invariant.0
