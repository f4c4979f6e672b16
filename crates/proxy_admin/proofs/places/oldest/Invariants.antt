use Rattle.proxy_admin.proofs.PlaceLemmas.{IsOldestBelow}
use Rattle.proxy_admin.proofs.places.oldest.Given as goal

-- of the visitors so far
abbrev pub invariant-loop-key : goal.invariant-loop-key
invariant-loop-key l = IsOldestBelow l.visitors l.key l.oldest l.least
