use Rattle.std.proofs.Common.{◌∙◌}
use Rattle.proxy_core.proofs.arrivals.NewestCommand.{parts_more}
use Rattle.proxy_core.proofs.state.connection.queue_parts.Goals as goal

pub loop-part-preserved : goal.loop-part-preserved
loop-part-preserved c =
    let before = c.args.queue.now in
    record {
      command = c.loop-part.invariant.command;
      queue = c.give.ensures
          ∙ parts_more c.loop-part.queue before.popped before.commands c.args.how c.args.placed.now c.loop-part.part c.index-placed-part.result c.in-Ok.command
          c.loop-part.invariant.command c.loop-part-test.true c.loop-part.invariant.queue;
    }
