use Rattle.reply_queue.proofs.QueueLemmas.{part_has_its_value, other_parts_stay}
use Rattle.reply_queue.proofs.laws.one_part_changes.Goals as goal

pub returns : goal.returns
returns c = record { value = part_has_its_value; others = other_parts_stay }
