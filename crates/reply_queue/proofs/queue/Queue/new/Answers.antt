use Rattle.std.proofs.Common.{refl}
use Rattle.reply_queue.proofs.queue.Queue.new.Goals as goal

pub returns-clause-popped : goal.returns-clause-popped
returns-clause-popped c = refl
