use Rattle.std.proofs.Common.{sym, arith}
use Rattle.proxy_core.proofs.pipelines.WithoutConnectionLemmas.{map-without_connection}
use Rattle.proxy_core.proofs.events.closed.forget_parts.Goals as goal

pub returns-else-left-gt0 : goal.returns-else-left-gt0
returns-else-left-gt0 c =
    sym (map-without_connection c.args.conn c.args.connections.now.numbered c.args.pipelines.now.states c.requires.awaited
    (omega (arith, sym c.left.ensures, c.if-left-gt0.false)))
