-- Which worker is to close a stalled client.
use Rattle.std.specs.Prelude.{◌≤◌, ◌<◌, ◌+◌, ◌-◌, ◌==◌, ◌&&◌, ◌++◌, if◌then◌else◌, nat_lt, not, ℕ, Bool, List, [], ◌∷◌, filter, slice_get, unwrap_or}
use Rattle.std.specs.List.{All}
use Rattle.std.specs.Option.{option_map}
use Rattle.proxy_serve_core.specs.declared.stalled_bids.StalledBid.{StalledBid}
use Rattle.proxy_serve_core.specs.declared.stalled_bids.TheConstants.{BID_STANDS_MS, BID_WAITS_MS}

-- a bid stands at this moment
abbrev pub stands : ℕ → StalledBid → Bool
stands now bid = nat_lt (now - bid.at) BID_STANDS_MS

-- a bid of others that stands
abbrev pub is_standing_beside : ℕ → ℕ → StalledBid → Bool
is_standing_beside bidder now bid = stands now bid && not (bid.bidder == bidder)

-- the bids of others that stand
abbrev pub standing_beside : ℕ → ℕ → List StalledBid → List StalledBid
standing_beside bidder now bids = filter (is_standing_beside bidder now) bids

-- a bid for some bytes that stands
abbrev pub is_standing_for : ℕ → StalledBid → Bool
is_standing_for now bid = nat_lt 0 bid.bytes && stands now bid

-- since when bids have stood without a break, whoever made them, as the first that stands tells; since now, if none stands
abbrev pub since_of : ℕ → List StalledBid → ℕ
since_of now bids = unwrap_or (option_map (λ bid. bid.since) (slice_get (filter (is_standing_for now) bids) 0)) now

-- the bid that a bidder makes
abbrev pub own_bid : ℕ → ℕ → ℕ → List StalledBid → StalledBid
own_bid bidder bytes now bids = record { bidder = bidder; bytes = bytes; since = since_of now bids; at = now }

-- the bids that stand once it is made
abbrev pub with_bid : ℕ → ℕ → ℕ → List StalledBid → List StalledBid
with_bid bidder bytes now bids = standing_beside bidder now bids ++ own_bid bidder bytes now bids ∷ []

-- a bid is of at most this many bytes
abbrev pub IsAtMost : ℕ → StalledBid → Type 0
IsAtMost bytes bid = bid.bytes ≤ bytes

-- A bid of some bytes wins once bids have stood for as long as each worker needs to look at its clients, and none of those that stand
-- is greater.
pub record Wins (now : ℕ) (own : StalledBid) (bids : List StalledBid) : Type 0 where
  pub some : 0 < own.bytes
  pub heard : own.since + BID_WAITS_MS ≤ now
  pub most : All (IsAtMost own.bytes) bids
