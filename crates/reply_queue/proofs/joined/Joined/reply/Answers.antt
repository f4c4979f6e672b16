use Rattle.std.proofs.Common.{Some, map, sym, ap, ◌∙◌}
use Rattle.std.proofs.lemmas.Result.{IfOk-weaker}
use Rattle.splitter.specs.Join.{join_of}
use Rattle.resp_core.specs.Value.{tree_of}
use Rattle.reply_queue.specs.Command.{reply_to}
use Rattle.reply_queue.proofs.PlaceLemmas.{complete_has_reply, reply_is_complete}
use Rattle.reply_queue.proofs.joined.Joined.reply.Goals as goal

pub join-requires : goal.join-requires
join-requires c = rw (c.as_slice.ensures.value, c.self.invariant.places) c.self.invariant.may_join

pub returns-clause-value : goal.returns-clause-value
returns-clause-value c =
    let kept = c.self.invariant in
    let has_reply = rw (← c.self.view_is) at c.requires in
    let reply = complete_has_reply _ _ _ _ kept (reply_is_complete _ _ _ _ kept has_reply) in
    IfOk-weaker c.join.result _ _ (λ v e. ap reply_to (sym c.self.view_is) ∙ reply ∙ ap Some (ap (λ vs. join_of c.self.inside.how (map tree_of vs)) (sym c.as_slice.ensures.value) ∙ sym e)) c.join.ensures.value
