use Rattle.std.proofs.Common.{take}
use Rattle.std.specs.List.{All}
use Rattle.proxy_serve_core.specs.StalledBids.{IsAtMost}
use Rattle.proxy_serve_core.proofs.stalled_bids.is_at_most.Given as goal

-- none of those so far is of more bytes
abbrev pub invariant-loop-bid : goal.invariant-loop-bid
invariant-loop-bid l = All (IsAtMost l.bytes) (take l.bid-index l.bids)
