-- The lines of generations among which the sockets of clients are shared out.
use Rattle.std.specs.Prelude.{◌≡◌, ◌≤◌, ◌<◌, ◌==◌, ℕ, List, length, slice_index_or}
use Rattle.std.specs.List.{count_by}

-- each line has as many sockets as these are in it, where each open socket is listed once, by its line
abbrev pub AreCounted : List ℕ → List ℕ → Type 0
AreCounted counts sockets = (l : ℕ) → l < length counts → slice_index_or counts l 0 ≡ count_by (λ line. line == l) sockets

-- no line has fewer sockets than this one
abbrev pub HasFewest : List ℕ → ℕ → Type 0
HasFewest counts line = (l : ℕ) → l < length counts → slice_index_or counts line 0 ≤ slice_index_or counts l 0
