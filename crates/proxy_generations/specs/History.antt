-- What may happen to generations, and when.
use Rattle.std.specs.Prelude.{◌≡◌, ◌⊎◌, ⊤, ℕ, ◌+◌, ◌<◌, ◌^◌, true, false, Some, None, List, [], ◌∷◌, length, Contains}
use Rattle.limits.specs.declared.journals.TheConstants.{GIVING_UP_MS, STILL_MS, MAX_DRAINING_MS}
use Rattle.proxy_generations.specs.declared.older.TheConstants.{MAX_DRAINING}
use Rattle.proxy_generations.specs.Moments.{HavePassed}
use Rattle.proxy_generations.specs.Events.{Event, Taken, Opened, Failed, Near, Full, Renewed, Progressed, Drained, Swept, newest, draining, in_the_way, has_connections, is_asked, last_number, near_since, still_since, drains_since, opening}

module _ {H : Type 0} where
  -- one more may drain
  abbrev pub HasRoom : List (Event H) → Type 0
  HasRoom es = length (draining es) < MAX_DRAINING

  -- by this moment a generation has been near its marks as long as the one in the way has for giving up
  abbrev pub HasGivenUp : List (Event H) → ℕ → Type 0
  HasGivenUp es now = HavePassed (near_since es) GIVING_UP_MS now

  -- by this moment no host has answered commands of the one in the way for STILL_MS, or the newest opened MAX_DRAINING_MS ago
  abbrev pub IsStill : List (Event H) → ℕ → Type 0
  IsStill es now = HavePassed (still_since es) STILL_MS now ⊎ HavePassed (drains_since es) MAX_DRAINING_MS now

  -- Which event may come next. A generation is given to be opened where it is the one asked for, once, and one more may drain. It
  -- opens or fails where it was given. The newest one alone is near its marks or full. It is near them only where one more may
  -- drain or the one in the way is still; it is full only where none is asked for, there is a further number, and one more may
  -- drain or the one in the way had its time for giving up. It hands over anew as long as one is asked for that isn't being opened.
  -- Of the one in the way alone it counts that hosts answer; of each that drains, that its last connection is gone. Those that have
  -- connections make sweeps.
  abbrev pub MayHappen : Event H → List (Event H) → Type 0
  MayHappen (Taken n) es = (n ≡ last_number es) × (is_asked es ≡ true) × (opening es ≡ None) × HasRoom es
  MayHappen (Opened n t) es = opening es ≡ Some n
  MayHappen (Failed n) es = opening es ≡ Some n
  MayHappen (Near n t) es = (newest es ≡ Some n) × (HasRoom es ⊎ IsStill es t)
  MayHappen (Full n t h) es =
      (newest es ≡ Some n) × (is_asked es ≡ false) × (last_number es + 1 < 2 ^ 64) × (HasRoom es ⊎ HasGivenUp es t)
  MayHappen (Renewed n h) es = (newest es ≡ Some n) × (is_asked es ≡ true) × (opening es ≡ None)
  MayHappen (Progressed n t) es = in_the_way es ≡ Some n
  MayHappen (Drained n) es = Contains (draining es) n
  MayHappen (Swept n t) es = has_connections n es ≡ true

  -- each event may happen after those before it
  abbrev pub IsHistory : List (Event H) → Type 0
  IsHistory [] = ⊤
  IsHistory (e ∷ es) = MayHappen e es × IsHistory es

  -- a generation is to be opened now
  abbrev pub IsDue : List (Event H) → Type 0
  IsDue es = MayHappen (Taken (last_number es)) es
