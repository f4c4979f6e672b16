use Rattle.std.proofs.Common.{◌≡◌, ℕ, ◌<◌, ◌≤◌, get_or, bit_or}
use Rattle.proxy_serve_core.proofs.key_set.join.Given as goal

abbrev pub invariant-loop-index : goal.invariant-loop-index
invariant-loop-index l =
    ((j : ℕ) → j < l.index → get_or l.words j 0 ≡ bit_or (get_or l.fn.words j 0) (get_or l.others j 0))
    × ((j : ℕ) → l.index ≤ j → get_or l.words j 0 ≡ get_or l.fn.words j 0)
