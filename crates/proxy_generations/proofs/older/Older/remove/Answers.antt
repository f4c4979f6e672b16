use Rattle.std.proofs.Common.{◌==◌, not, arith}
use Rattle.proxy_generations.proofs.OlderLemmas.{few_filtered}
use Rattle.proxy_generations.proofs.older.Older.remove.Goals as goal

pub push-requires : goal.push-requires
push-requires c =
    let few = few_filtered (λ o. not (c.args.number == o.number)) c.loop-one.one-index c.as_slice-one-items.result.now
    c.loop-one.after.items c.loop-one.invariant in
    let fits = c.as_slice-one-items.ensures.fits in (omega arith, omega arith)
