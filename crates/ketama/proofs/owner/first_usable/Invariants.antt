use Rattle.std.proofs.Common.{◌≡◌, ℕ, ◌<◌, false, get_or}
use Rattle.ketama.specs.Owner.{is_usable}
use Rattle.ketama.proofs.owner.first_usable.Given as goal

-- none of the pairs so far is usable
abbrev pub invariant-loop-at : goal.invariant-loop-at
invariant-loop-at l = (k : ℕ) → k < l.at-index → is_usable l.usable (get_or l.pairs k (0, 0)).1 ≡ false
