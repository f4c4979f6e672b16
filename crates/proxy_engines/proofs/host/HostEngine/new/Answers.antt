use Rattle.proxy_engines.proofs.HostMoves.{fresh_carries}
use Rattle.proxy_engines.proofs.host.HostEngine.new.Goals as goal

pub returns-clause-carries : goal.returns-clause-carries
returns-clause-carries g c = rw c.new.ensures (fresh_carries c.args.host c.args.reply_ms)
