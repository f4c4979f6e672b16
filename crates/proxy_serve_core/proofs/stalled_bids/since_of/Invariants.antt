use Rattle.std.proofs.Common.{◌≡◌, drop}
use Rattle.proxy_serve_core.specs.StalledBids.{since_of}
use Rattle.proxy_serve_core.proofs.stalled_bids.since_of.Given as goal

-- none of those so far stands
abbrev pub invariant-loop-bid : goal.invariant-loop-bid
invariant-loop-bid l = since_of l.now (drop l.bid-index l.bids) ≡ since_of l.now l.bids
