use Rattle.std.proofs.Common.{[], Some, None, sym, ◌∙◌}
use Rattle.test_reference.specs.Scan.{part_of, past_of_scan}
use Rattle.test_reference.proofs.ReplyPlaceLemmas.{reply_to-is}
use Rattle.test_reference.proofs.value.reply_to.Goals as goal

pub returns-in-Some : goal.returns-in-Some
returns-in-Some c =
    c.reply_at.ensures ∙ reply_to-is (part_of c.args.part.now) c.args.host (past_of_scan c.args.steps.now [] c.args.replay.now) (Some c.in-Some.place) (sym c.in-Some.is ∙ c.place.ensures c.args.steps.now)

pub returns-in-None : goal.returns-in-None
returns-in-None c =
    reply_to-is (part_of c.args.part.now) c.args.host (past_of_scan c.args.steps.now [] c.args.replay.now) None (sym c.in-None.is ∙ c.place.ensures c.args.steps.now)
