use Rattle.std.proofs.Common.{◌≡◌, ◌∙◌, ◌+◌, [], ◌∷◌, ap, arith, length}
use Rattle.std.proofs.lemmas.List.{length-append}
use Rattle.proxy_rounds.proofs.TaskLemmas.{one_task_more, one_worker_more}
use Rattle.proxy_rounds.proofs.generation.tasks.Goals as goal

pub loop-poll-preserved : goal.loop-poll-preserved
loop-poll-preserved g c =
    let i = c.loop-poll.invariant in
    let next : c.saturating_add-index.result ≡ c.loop-poll.index + 1 =
    omega (arith, c.saturating_add-index.ensures, i.2, c.loop-poll.tasks.small, c.loop-poll.tasks.ok) in
    let grown : length c.push.new.self.items ≡ length c.loop-poll.tasks.items + 1 =
    ap length c.in_ok-push.ensures.items ∙ length-append c.loop-poll.tasks.items (c.in_ok-work_task.field-0 ∷ []) in (
      tt,
      tt,
      omega (arith, grown, next, i.2),
      omega (arith, next, i.3, c.in-Some.ensures.steps.1),
      rw next (one_worker_more (length c.args.polls.items) c.loop-poll.index _ _ c.in_ok-work_task.field-0 c.in_ok-push.ensures.items (rw i.5 at c.in_ok-work_task.ensures) i.4),
      i.5,
    )

pub returns : goal.returns
returns g c =
    let all : c.loop-poll.index ≡ length c.args.polls.items = omega (arith, c.loop-poll.invariant.3, c.in-None.ensures.steps.0) in
    rw all at
    (one_task_more (length c.args.polls.items) c.loop-poll.index _ _ c.in_ok-sweep_task.field-0 c.in_ok-push-2.ensures.items c.in_ok-sweep_task.ensures c.loop-poll.invariant.4)
