use Rattle.std.proofs.Common.{rules}
use Rattle.reply_queue.proofs.queue.Queue.pop.Goals as goal

pub returns-clause-popped : goal.returns-clause-popped
returns-clause-popped c = search rules
