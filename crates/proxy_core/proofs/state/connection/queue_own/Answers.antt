use Rattle.std.proofs.Common.{◌∙◌}
use Rattle.resp_core.specs.Value.{tree_of}
use Rattle.splitter.specs.declared.plans.Join.TheVariants.{Same}
use Rattle.proxy_core.proofs.arrivals.NewestCommand.{one_set}
use Rattle.proxy_core.proofs.state.connection.queue_own.Goals as goal

pub returns-clause-commands : goal.returns-clause-commands
returns-clause-commands c =
    let before = c.args.queue.now in
    c.set_part.ensures
    ∙ one_set c.accept.new.self before.popped before.commands Same c.in-Ok.command (tree_of c.args.value) c.in-Ok.ensures.index c.in-Ok.ensures.popped c.in-Ok.ensures.commands
