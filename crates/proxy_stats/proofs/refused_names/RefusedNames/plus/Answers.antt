use Rattle.std.proofs.Common.{arith, refl}
use Rattle.proxy_stats.proofs.AddLemmas.{added_more}
use Rattle.proxy_stats.proofs.refused_names.RefusedNames.plus.Goals as goal

pub loop-place-preserved : goal.loop-place-preserved
loop-place-preserved c = added_more c.args.self.now c.args.other.now.places c.loop-place.place-index _ c.loop-place.sum c.add.new.self (omega arith) refl c.loop-place.invariant c.add.ensures
