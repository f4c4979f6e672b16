use Rattle.std.proofs.Common.{◌-◌, slice_set, ap, ◌∙◌}
use Rattle.list_lemmas.proofs.CallerLemmas.{slice_set-changed}
use Rattle.resp_core.specs.Value.{tree_of}
use Rattle.reply_queue.specs.Command.{with_value}
use Rattle.reply_queue.specs.Queue.{QueueState}
use Rattle.reply_queue.proofs.queue.Queue.set_part.Goals as goal

pub returns : goal.returns
returns c =
    let change = with_value c.args.part (tree_of c.args.value) in
    let place = c.args.command - c.self.inside.popped in
    rw (← c.self.view_is) (ap (λ cs. let q : QueueState = record { popped = c.self.inside.popped; commands = cs } in q)
    (ap (slice_set c.self.inside.commands.items place) (c.set.ensures ∙ ap change c.index_mut.ensures.value) ∙ slice_set-changed change place _ _))
