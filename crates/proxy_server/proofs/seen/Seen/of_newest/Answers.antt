use Rattle.std.proofs.Common.{◌<◌, ℕ, arith}
use Rattle.std.proofs.lemmas.List.Elements.{All-contains}
use Rattle.proxy_generations.specs.Events.{draining}
use Rattle.proxy_server.proofs.seen.Seen.of_newest.Goals as goal

pub returns-clause-task : goal.returns-clause-task
returns-clause-task c = λ es h is drains.
    let less : c.args.number < c.args.number =
    All-contains (λ (k : ℕ). k < c.args.number) (draining es) c.args.number ((c.generations_follow.ensures.in_order es h).1 c.args.number is) drains in
    omega (arith, less)
