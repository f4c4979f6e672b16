use Rattle.std.proofs.Common.{sym, ◌∙◌}
use Rattle.proxy_record.proofs.DecimalLemmas.{negative_arm, positive_arm}
use Rattle.proxy_record.proofs.read_back.signed_in.Goals as goal

pub returns-then-is_negative : goal.returns-then-is_negative
returns-then-is_negative c n long is =
    negative_arm c.args.shown.now c.negative_in.result n long (sym c.is_negative.ensures ∙ c.if-is_negative.true) is c.negative_in.ensures

pub returns-else-is_negative : goal.returns-else-is_negative
returns-else-is_negative c n long is =
    positive_arm c.args.shown.now c.positive_in.result n long (sym c.is_negative.ensures ∙ c.if-is_negative.false) is c.positive_in.ensures
