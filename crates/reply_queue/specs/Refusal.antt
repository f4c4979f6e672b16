-- The numbers of the refusals.
use Rattle.std.specs.Prelude.{ℕ}
use Rattle.reply_queue.specs.declared.refusal.QueueRefusal.{QueueRefusal}
use Rattle.reply_queue.specs.declared.refusal.QueueRefusal.TheVariants.{NoMemory, Crowded, Spent}

-- the number by which a refusal is documented
abbrev pub number_of : QueueRefusal → ℕ
number_of NoMemory = 801
number_of Crowded = 802
number_of Spent = 803
