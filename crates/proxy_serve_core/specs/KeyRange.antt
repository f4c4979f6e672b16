-- In which order a round looks at clients.
use Rattle.std.specs.Prelude.{◌≡◌, ◌<◌, ◌-◌, ◌^◌, ℕ, List, nat_le, nat_lt, ◌&&◌, count_by}
use Rattle.proxy_serve_core.specs.declared.key_range.KeyRange.{KeyRange}

-- in how many of the ranges a key is
abbrev pub times_in : List KeyRange → ℕ → ℕ
times_in ranges key = count_by (λ range. nat_le range.begin key && nat_lt key range.end) ranges

-- each key that a client may have is in one of the ranges alone
abbrev pub CoverOnce : List KeyRange → Type 0
CoverOnce ranges = (key : ℕ) → key < 2 ^ 64 - 1 → times_in ranges key ≡ 1
