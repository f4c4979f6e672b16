-- How the generations that drain are kept, the oldest first.
use Rattle.std.specs.Prelude.{ℕ, ◌==◌, nat_lt, if◌then◌else◌, Option, None, List, length, map, slice_get}
use Rattle.proxy_generations.specs.declared.older.TheConstants.{MAX_DRAINING}
use Rattle.proxy_generations.specs.declared.opened.Open.{Open}

-- their numbers
abbrev pub numbers_of : List Open → List ℕ
numbers_of kept = map (λ o. o.number) kept

-- the first of these numbers, where there are as many as may be
abbrev pub first_if_full : List ℕ → Option ℕ
first_if_full ns = if nat_lt (length ns) MAX_DRAINING then None else slice_get ns 0

-- an open one, once the generation of this number has swept
abbrev pub swept_at : ℕ → ℕ → Open → Open
swept_at number now o = if o.number == number then record { number = number; swept = now } else o
