-- How open generations are kept.
use Rattle.std.specs.Prelude.{◌≡◌, ◌⊎◌, ◌<◌, ℕ, Option, Some, None, length}
use Rattle.proxy_generations.specs.declared.lifecycle.Generations.{Generations}
use Rattle.limits.specs.declared.journals.TheConstants.{GIVING_UP_MS, STILL_MS, MAX_DRAINING_MS}
use Rattle.proxy_generations.specs.declared.older.TheConstants.{MAX_DRAINING}
use Rattle.proxy_generations.specs.declared.opened.Open.{Open}
use Rattle.proxy_generations.specs.Moments.{HavePassed}

-- an open one has this number
abbrev pub IsNumber : Option Open → ℕ → Type 0
IsNumber None n = ⊥
IsNumber (Some kept) n = kept.number ≡ n

-- one more may be kept that drains
abbrev pub KeepsRoom : {H : Type 0} → Generations H → Type 0
KeepsRoom m = length m.older.kept.items < MAX_DRAINING

-- one more may be kept that drains, or by this moment the one in the way had its time for giving up
abbrev pub HadTime : {H : Type 0} → Generations H → ℕ → Type 0
HadTime m now = KeepsRoom m ⊎ HavePassed m.near_since GIVING_UP_MS now

-- one more may be kept that drains, or by this moment the one in the way is still
abbrev pub MayBeLeft : {H : Type 0} → Generations H → ℕ → Type 0
MayBeLeft m now = KeepsRoom m
    ⊎ (HavePassed m.still_since STILL_MS now ⊎ HavePassed m.drains_since MAX_DRAINING_MS now)
