-- What follows of generations, from what may happen.
use Rattle.std.specs.Prelude.{◌≡◌, ◌≢◌, ◌⊎◌, ◌↔◌, ◌<◌, ◌≤◌, ◌+◌, ◌==◌, if◌then◌else◌, ℕ, true, Some, IsSome, List, [], ◌∷◌, ◌++◌, length, All, AllPairs, Contains}
use Rattle.limits.specs.declared.journals.TheConstants.{GIVING_UP_MS, MAX_GENERATIONS}
use Rattle.proxy_generations.specs.Events.{Event, Opened, Near, Full, newest, draining, in_the_way, has_connections, is_asked, near_since, asker, last_number}
use Rattle.proxy_generations.specs.History.{IsHistory, IsStill, HasRoom}
use Rattle.proxy_generations.specs.Phase.{IsAbove}

-- Those that have connections are the newest one and those that drain,
abbrev pub OpenHaveConnections : Type 0 → Type 0
OpenHaveConnections H = (es : List (Event H)) → IsHistory es → (n : ℕ)
    → (has_connections n es ≡ true) ↔ ((newest es ≡ Some n) ⊎ Contains (draining es) n)

-- so many together at most,
abbrev pub FewDrain : Type 0 → Type 0
FewDrain H = (es : List (Event H)) → IsHistory es → length (draining es) + 1 ≤ MAX_GENERATIONS

-- and those that drain opened one after another, before the newest.
abbrev pub DrainInOrder : Type 0 → Type 0
DrainInOrder H = (es : List (Event H)) → IsHistory es
    → AllPairs (λ m n. m < n) (draining es) × ((n : ℕ) → newest es ≡ Some n → All (λ m. m < n) (draining es))

-- None of those that drain is the newest, or newer than that.
abbrev pub DrainingAreOlder : Type 0 → Type 0
DrainingAreOlder H = (es : List (Event H)) → IsHistory es → (n : ℕ) → Contains (draining es) n
    → (newest es ≢ Some n) × (¬ IsAbove (newest es) n)

-- From the first opening on there always is a newest one, whatever comes later.
abbrev pub OneIsOpen : Type 0 → Type 0
OneIsOpen H = (later earlier : List (Event H)) (n now : ℕ) → IsSome (newest (later ++ Opened n now ∷ earlier))

-- As long as a generation is asked for, the newest one is the one that handed over last.
abbrev pub NewestHandsOver : Type 0 → Type 0
NewestHandsOver H = (es : List (Event H)) → IsHistory es → is_asked es ≡ true → asker es ≡ newest es

-- A generation opens as long as it is asked for, under its own number, above that of the newest one, and while one more may
-- drain.
pub record OpensInTurn {H : Type 0} (n : ℕ) (es : List (Event H)) : Type 0 where
  pub is_asked : is_asked es ≡ true
  pub number : n ≡ last_number es
  pub is_above : (m : ℕ) → newest es ≡ Some m → m < n
  pub has_room : HasRoom es

-- and so it is at each opening
abbrev pub AllOpenInTurn : Type 0 → Type 0
AllOpenInTurn H = (es : List (Event H)) (n now : ℕ) → IsHistory (Opened n now ∷ es) → OpensInTurn n es

-- how many generations opened after this one did
abbrev pub opened_since : {H : Type 0} → ℕ → List (Event H) → ℕ
opened_since n [] = 0
opened_since n (Opened m t ∷ es) = if m == n then 0 else opened_since n es + 1
opened_since n (_ ∷ es) = opened_since n es

-- The one in the way drains, opened before all others that have connections, and as many as may have them opened since then,
-- with it.
pub record IsOldest {H : Type 0} (n : ℕ) (es : List (Event H)) : Type 0 where
  pub drains : Contains (draining es) n
  pub is_first : All (λ m. n ≤ m) (draining es)
  pub are_full : length (draining es) + 1 ≡ MAX_GENERATIONS
  pub have_opened : MAX_GENERATIONS ≤ opened_since n es + 1

-- so it is with each that is in the way
abbrev pub OldestIsInTheWay : Type 0 → Type 0
OldestIsInTheWay H = (es : List (Event H)) → IsHistory es → (n : ℕ) → in_the_way es ≡ Some n → IsOldest n es

-- The newest one said at this moment that it is near its marks, while the generation n was in the way and still.
pub record CameNear {H : Type 0} (n since : ℕ) (es : List (Event H)) : Type 0 where
  pub by : ℕ
  pub later : List (Event H)
  pub earlier : List (Event H)
  pub are : es ≡ later ++ Near by since ∷ earlier
  pub by_newest : newest earlier ≡ Some by
  pub was_in_the_way : in_the_way earlier ≡ Some n
  pub is_still : IsStill earlier since

-- A generation is given up only where the newest one said that it is near its marks, while the other was in the way and still.
abbrev pub GivenUpIfNear : Type 0 → Type 0
GivenUpIfNear H = (es : List (Event H)) → IsHistory es → (n since : ℕ) → in_the_way es ≡ Some n → near_since es ≡ Some since
    → CameNear n since es

-- The newest one was full while the generation n was in the way, and had said that it is near its marks as long before as that
-- has for giving up.
pub record CameFull {H : Type 0} (n : ℕ) (es : List (Event H)) : Type 0 where
  pub by : ℕ
  pub now : ℕ
  pub handover : H
  pub later : List (Event H)
  pub earlier : List (Event H)
  pub are : es ≡ later ++ Full by now handover ∷ earlier
  pub by_newest : newest earlier ≡ Some by
  pub was_in_the_way : in_the_way earlier ≡ Some n
  pub since : ℕ
  pub near : CameNear n since earlier
  pub gave_up : since + GIVING_UP_MS ≤ now

-- It stops only where the newest one was full, while it was in the way and had its time for giving up.
abbrev pub StopsIfFull : Type 0 → Type 0
StopsIfFull H = (es : List (Event H)) → IsHistory es → (n : ℕ) → in_the_way es ≡ Some n → is_asked es ≡ true → CameFull n es
