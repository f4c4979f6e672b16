use Rattle.std.proofs.Common.{arith}
use Rattle.resp_core.proofs.unfinished.HeadLemmas.{steps_unsigned}
use Rattle.resp_core.proofs.head.step_sign.Goals as goal

pub returns-in_default-clause-steps : goal.returns-in_default-clause-steps
returns-in_default-clause-steps c =
    steps_unsigned c.args.most c.args.left c.args.byte c.step_number.result (omega (arith, c.in_default)) (omega (arith, c.in_default)) (c.step_number.ensures.steps c.args.most c.args.left)

pub returns-in_default-clause-good : goal.returns-in_default-clause-good
returns-in_default-clause-good c = c.step_number.ensures.good c.args.most c.args.left
