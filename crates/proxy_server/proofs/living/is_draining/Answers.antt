use Rattle.proxy_generations.specs.Events.{draining}
use Rattle.proxy_server.proofs.LivingLemmas.{is_there}
use Rattle.proxy_server.proofs.living.is_draining.Goals as goal

pub returns : goal.returns
returns c = λ s es st. is_there c.drains.result (draining es) c.args.number (c.drains.ensures s es st)
