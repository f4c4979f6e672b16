use Rattle.reply_queue.proofs.QueueLemmas.{newest_has_its_index, others_keep_their_index}
use Rattle.reply_queue.proofs.laws.indices_stay.Goals as goal

pub returns : goal.returns
returns c = record { newest = newest_has_its_index; others = others_keep_their_index }
