use Rattle.journal_budget.proofs.ReplySizeLemmas.{large_is_charged, late_are_counted, small_again}
use Rattle.journal_budget.proofs.laws.reply_sizes_follow.Goals as goal

pub returns : goal.returns
returns c = record { charged = large_is_charged; small = small_again; late = late_are_counted }
