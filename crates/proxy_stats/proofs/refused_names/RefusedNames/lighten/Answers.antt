use Rattle.std.proofs.Common.{arith}
use Rattle.proxy_stats.proofs.PlaceListLemmas.{lightened_more}
use Rattle.proxy_stats.proofs.refused_names.RefusedNames.lighten.Goals as goal

pub loop-i-preserved : goal.loop-i-preserved
loop-i-preserved c =
    lightened_more _ _ c.loop-i.i c.loop-i.self.places c.loop-i.self.others c.lighter.result c.leaving.result c.saturating_add-self-in-loop-i.result (omega arith) c.loop-i.invariant c.lighter.ensures c.leaving.ensures c.saturating_add-self-in-loop-i.ensures
