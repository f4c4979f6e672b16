use Rattle.std.proofs.Common.{arith}
use Rattle.proxy_stats.proofs.AddLemmas.{left_over, placed_at}
use Rattle.proxy_stats.proofs.refused_names.RefusedNames.add_other.Goals as goal

pub returns-then-self-least : goal.returns-then-self-least
returns-then-self-least c =
    placed_at c.args.self.now c.least_place-least.result c.args.place.now c.saturating_add-self.result c.least_place-least.ensures.there c.requires c.least_place-least.ensures (omega (arith, c.if-self-least.true)) c.saturating_add-self.ensures

pub returns-else-self-least : goal.returns-else-self-least
returns-else-self-least c =
    left_over c.args.self.now c.least_place-least.result c.args.place.now c.saturating_add-self-else-self-least.result c.least_place-least.ensures (omega (arith, c.if-self-least.false)) c.saturating_add-self-else-self-least.ensures
