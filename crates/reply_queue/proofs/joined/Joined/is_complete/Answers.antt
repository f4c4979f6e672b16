use Rattle.std.proofs.Common.{is_some, ap, eqb-true, eq-eqb}
use Rattle.reply_queue.proofs.PlaceLemmas.{complete_has_reply, reply_is_complete}
use Rattle.reply_queue.proofs.joined.Joined.is_complete.Goals as goal

pub returns : goal.returns
returns c = rw (← c.self.view_is) (λ e. ap is_some (complete_has_reply _ _ _ _ c.self.invariant (eqb-true _ _ e)), λ e. eq-eqb _ _ (reply_is_complete _ _ _ _ c.self.invariant e))
