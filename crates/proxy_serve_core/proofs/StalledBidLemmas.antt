-- Bids of at most so many bytes.
use Rattle.std.proofs.Common.{◌<◌, ◌≤◌, ◌+◌, ℕ, List, [], ◌∷◌, All, get_or, take, length, rules}
use Rattle.std.proofs.lemmas.List.{take_all, take_more}
use Rattle.std.proofs.lemmas.List.Elements.{All-append}
use Rattle.proxy_serve_core.specs.StalledBids.{IsAtMost}
use Rattle.proxy_serve_core.specs.declared.stalled_bids.StalledBid.{StalledBid}

module _ (bids : List StalledBid) (bytes i : ℕ) where
  -- one further one
  pub at_most_more : (d : StalledBid) → i < length bids → (get_or bids i d).bytes ≤ bytes
      → All (IsAtMost bytes) (take i bids) → All (IsAtMost bytes) (take (i + 1) bids)
  at_most_more d less few all =
      let one : All (IsAtMost bytes) (get_or bids i d ∷ []) = search rules in
      rw (take_more bids i d less) (All-append (IsAtMost bytes) (take i bids) (get_or bids i d ∷ []) all one)

  -- and all
  pub at_most_all : length bids ≤ i → All (IsAtMost bytes) (take i bids) → All (IsAtMost bytes) bids
  at_most_all end all = rw (take_all i bids end) at all
