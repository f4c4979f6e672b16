use Rattle.std.proofs.Common.{arith}
use Rattle.resp_core.proofs.unfinished.HeadLemmas.{stops_there}
use Rattle.resp_core.proofs.head.read_head.Goals as goal

pub returns-in-Err-clause-refused : goal.returns-in-Err-clause-refused
returns-in-Err-clause-refused c =
    (omega (arith, c.loop-i-test.true), stops_there c.args.most c.args.left c.args.head c.loop-i.head c.in-Err.refusal c.args.bytes.now c.loop-i.i c.loop-i-test.true c.loop-i.invariant.same c.in-Err.ensures.steps)
