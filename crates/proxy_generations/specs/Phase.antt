-- What a generation is to do.
use Rattle.std.specs.Prelude.{◌≡◌, ◌↔◌, ◌⊎◌, ◌<◌, ⊤, ℕ, true, false, Option, Some, None, IsSome, List, Contains}
use Rattle.proxy_generations.specs.Events.{Event, newest, draining, in_the_way, has_connections, is_asked, near_since}
use Rattle.proxy_generations.specs.declared.phase.Phase.{Phase}
use Rattle.proxy_generations.specs.declared.phase.Phase.TheVariants.{Unopened, Serving, Draining, GivingUp, Stopped}

-- a number is above that of the newest open one, where one is open
abbrev pub IsAbove : Option ℕ → ℕ → Type 0
IsAbove None n = ⊤
IsAbove (Some m) n = m < n

module _ {H : Type 0} where
  -- a generation is in the way of the next, and that is not asked for
  abbrev pub IsLeft : List (Event H) → ℕ → Type 0
  IsLeft es n = (in_the_way es ≡ Some n) × (is_asked es ≡ false)

  -- a generation is in the way of the next, which is asked for
  abbrev pub IsInTheWay : List (Event H) → ℕ → Type 0
  IsInTheWay es n = (in_the_way es ≡ Some n) × (is_asked es ≡ true)

  -- a generation was open, and has no connection left
  abbrev pub IsOver : List (Event H) → ℕ → Type 0
  IsOver es n = (¬ IsAbove (newest es) n) × (has_connections n es ≡ false)

  -- What a generation is to do, each phase exactly where it is so. One that is newer than all that opened hasn't opened. The newest
  -- open one alone serves. Of those that drain only the one in the way does anything else: it is given up where the newest one has
  -- said that it is near its marks, and stops where the next one is asked for. One that is over stops too.
  pub record IsPhase (phase : Phase) (es : List (Event H)) (n : ℕ) : Type 0 where
    pub awaits : (phase ≡ Unopened) ↔ IsAbove (newest es) n
    pub serves : (phase ≡ Serving) ↔ (newest es ≡ Some n)
    pub drains : (phase ≡ Draining) ↔ (Contains (draining es) n
        × (in_the_way es ≡ Some n → (is_asked es ≡ false) × (near_since es ≡ None)))
    pub gives_up : (phase ≡ GivingUp) ↔ (IsLeft es n × IsSome (near_since es))
    pub stops : (phase ≡ Stopped) ↔ (IsInTheWay es n ⊎ IsOver es n)

  -- the task of a generation that drains, and none where it doesn't
  abbrev pub IsTask : Option Phase → List (Event H) → ℕ → Type 0
  IsTask None es n = ¬ Contains (draining es) n
  IsTask (Some phase) es n = Contains (draining es) n × IsPhase phase es n
