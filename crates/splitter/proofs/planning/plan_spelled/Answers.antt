use Rattle.std.proofs.Common.{◌∙◌}
use Rattle.splitter.proofs.PlanLemmas.{whole_inside, whole_is, ping_is}
use Rattle.splitter.proofs.planning.plan_spelled.Goals as goal

pub word-requires : goal.word-requires
word-requires c = whole_inside c.in-Some.entry c.args.command.now c.in-Some.ensures c.in-One.is

pub returns-in-One-clause-plan : goal.returns-in-One-clause-plan
returns-in-One-clause-plan c =
    whole_is c.in-Some.entry c.args.command.now _ _ c.in-Some.ensures c.in-One.is c.word.ensures (c.in_ok-clone-in-One.ensures.cases ∙ c.text.ensures)

pub returns-in-Ping-clause-plan : goal.returns-in-Ping-clause-plan
returns-in-Ping-clause-plan c = c.pong.ensures ∙ ping_is c.in-Some.entry c.args.command.now c.in-Some.ensures c.in-Ping.is
