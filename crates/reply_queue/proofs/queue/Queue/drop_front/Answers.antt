use Rattle.std.proofs.Common.{◌≡◌, ◌+◌, rules}
use Rattle.reply_queue.specs.Queue.{QueueState, without_front}
use Rattle.reply_queue.proofs.queue.Queue.drop_front.Goals as goal

pub returns : goal.returns
returns c =
    let left : QueueState = record { popped = c.self.inside.popped + 1; commands = c.pop_front.new.self.items } in
    let one_less : left ≡ without_front c.args.self.now = search rules in
    one_less
