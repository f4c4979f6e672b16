use Rattle.std.proofs.Common.{sym, ap}
use Rattle.reply_queue.specs.Refusal.{number_of}
use Rattle.reply_queue.proofs.refusal.QueueRefusal.number.Goals as goal

pub returns-in-Crowded : goal.returns-in-Crowded
returns-in-Crowded c = ap number_of (sym c.in-Crowded.is)
