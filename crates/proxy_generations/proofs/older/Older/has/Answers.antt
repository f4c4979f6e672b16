use Rattle.proxy_generations.proofs.OlderLemmas.{number_out_all, number_out_more}
use Rattle.proxy_generations.proofs.older.Older.has.Goals as goal

pub loop-one-preserved : goal.loop-one-preserved
loop-one-preserved c =
    number_out_more c.as_slice-one-items.result.now c.loop-one.one-index c.args.number _ c.loop-one-test.true
    c.if-one-number.false c.loop-one.invariant

pub returns : goal.returns
returns c = (
  λ x. absurd cc,
  λ x. absurd (number_out_all c.args.self.now.kept.items c.as_slice-one-items.result.now c.loop-one.one-index c.args.number
      c.as_slice-one-items.ensures.value c.loop-one-test.false c.loop-one.invariant x),
)
