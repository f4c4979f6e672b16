use Rattle.proxy_serve_core.proofs.StalledBidLemmas.{at_most_all, at_most_more}
use Rattle.std.proofs.Common.{refl}
use Rattle.proxy_serve_core.proofs.stalled_bids.is_at_most.Goals as goal

pub loop-bid-preserved : goal.loop-bid-preserved
loop-bid-preserved c =
    at_most_more c.args.bids.now c.args.bytes c.loop-bid.bid-index _ c.loop-bid-test.true
    c.if-bid-bytes.false c.loop-bid.invariant

pub returns : goal.returns
returns c = (
  λ _. at_most_all c.args.bids.now c.args.bytes c.loop-bid.bid-index c.loop-bid-test.false c.loop-bid.invariant,
  λ _. refl,
)
