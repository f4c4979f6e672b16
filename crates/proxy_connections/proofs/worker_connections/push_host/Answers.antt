use Rattle.std.proofs.Common.{◌∙◌, arith, refl}
use Rattle.std.proofs.lemmas.Option.{slice_get_read}
use Rattle.proxy_connections.proofs.WorkerConnectionLemmas.{rises_past, rises_to}
use Rattle.proxy_connections.proofs.worker_connections.push_host.Goals as goal

pub returns-then-not-has : goal.returns-then-not-has
returns-then-not-has c = λ rises. rises_past _ _ (λ is. absurd (grind (arith, c.if-not-has.true, c.has.ensures.1 is))) rises

pub returns : goal.returns
returns c = λ rises.
    rises_to _ _ _ _ c.in_ok-push.ensures.items rises c.new-connection.ensures.host
    (c.has.ensures.0 (grind (arith, c.if-not-has.false)))
    c.new-connection.ensures.carries
    (c.index-entry.result.now, rw c.new-connection.ensures.host (slice_get_read c.args.setup.config.now.hosts.items _ c.args.host c.index-entry.result.now refl c.requires.there c.index-entry.ensures), c.new-connection.ensures.address ∙ c.new-link.ensures)
