use Rattle.std.proofs.Common.{arith}
use Rattle.std.proofs.lemmas.Int.{ints}
use Rattle.splitter.proofs.TotalLemmas.{total_more}
use Rattle.splitter.proofs.joining.total.Goals as goal

pub loop-value-preserved : goal.loop-value-preserved
loop-value-preserved c =
    let step = total_more c.args.values.now c.loop-value.value-index c.value-item.result c.loop-value-test.true c.value-item.is in
    record {
      same = omega (arith, ints, step);
      low = omega (arith, ints);
      high = omega (arith, ints);
    }
