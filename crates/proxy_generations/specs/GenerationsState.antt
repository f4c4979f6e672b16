-- What `Generations` knows of what happened.
use Rattle.std.specs.Prelude.{◌≡◌, ◌⊎◌, ◌+◌, ◌-◌, ◌≤◌, ℕ, Bool, true, false, Option, Some, None, List, ◌∷◌, map}
use Rattle.proxy_generations.specs.Events.{Event, Taken, newest, draining, has_connections, is_asked, near_since, still_since, drains_since, failures, handover, last_number, last_sweep, handed_sweep, opening}
use Rattle.proxy_generations.specs.History.{MayHappen, IsHistory, IsDue}
use Rattle.proxy_generations.specs.declared.lifecycle.Due.{Due}
use Rattle.proxy_generations.specs.declared.opened.Open.{Open}
use Rattle.proxy_generations.specs.declared.lifecycle.NextGeneration.{NextGeneration}
use Rattle.proxy_generations.specs.declared.lifecycle.NextGeneration.TheVariants.{Unasked, Wanted, Opening}
use Rattle.proxy_generations.specs.declared.lifecycle.Generations.{Generations}

-- what `Generations::new` was given
pub record Settings : Type 0 where
  pub interval_ms : ℕ
  pub max_failures : ℕ

module _ {H : Type 0} where
  -- an open generation, as it is kept
  abbrev pub open_of : List (Event H) → Option ℕ → Option Open
  open_of es None = None
  open_of es (Some n) = Some (record { number = n; swept = last_sweep n es })

  -- those that drain, as they are kept
  abbrev pub kept_of : List (Event H) → List ℕ → List Open
  kept_of es ns = map (λ n. record { number = n; swept = last_sweep n es }) ns

  -- the further one, as it is kept
  abbrev pub next_of : Bool → Option ℕ → Option H → NextGeneration H
  next_of false number from = Unasked
  next_of true None from = Wanted from
  next_of true (Some n) from = Opening

  -- This is what happened since `new`, which was given these settings. Its fields say how that is kept; contracts need none of
  -- them.
  pub record Stands (m : Generations H) (s : Settings) (es : List (Event H)) : Type 0 where
    pub may : IsHistory es
    pub interval_is : m.interval_ms ≡ s.interval_ms
    pub most_is : m.max_failures ≡ s.max_failures
    pub tries_are : m.tries_left ≡ s.max_failures - failures es
    pub newest_is : m.newest ≡ open_of es (newest es)
    pub older_is : m.older.kept.items ≡ kept_of es (draining es)
    pub near_is : m.near_since ≡ near_since es
    pub still_is : m.still_since ≡ still_since es
    pub drains_is : m.drains_since ≡ drains_since es
    pub next_is : m.next ≡ next_of (is_asked es) (opening es) (handover es)
    pub asked_is : m.asked ≡ last_number es
    pub handed_is : m.handed_sweep ≡ handed_sweep es

  -- A call tells that this happened: it counts where it may happen, and else nothing changes.
  pub record Tells (e : Event H) (old new : Generations H) : Type 0 where
    pub counts : (s : Settings) (es : List (Event H)) → Stands old s es → MayHappen e es → Stands new s (e ∷ es)
    pub ignored : (s : Settings) (es : List (Event H)) → Stands old s es → ¬ MayHappen e es → new ≡ old

  -- what is to be opened: the one asked for last, from what was handed over last
  abbrev pub due_of : List (Event H) → Due H
  due_of es = record { number = last_number es; from = handover es }

  -- The one that is to be opened is given, where one is, and with that it's being opened; where none is, nothing changes.
  pub record Gives (given : Option (Due H)) (old new : Generations H) : Type 0 where
    pub due : (s : Settings) (es : List (Event H)) → Stands old s es → IsDue es
        → (given ≡ Some (due_of es)) × Stands new s (Taken (last_number es) ∷ es)
    pub none : (s : Settings) (es : List (Event H)) → Stands old s es → ¬ IsDue es → (given ≡ None) × (new ≡ old)

  -- Where it fails again, the serving is to end: none is open, or as many have failed in a row.
  abbrev pub EndsServing : Settings → List (Event H) → Type 0
  EndsServing s es = (newest es ≡ None) ⊎ (s.max_failures ≤ failures es + 1)

  -- a sweep of a generation that has connections is due: the interval has passed since the last one that leads to it
  pub record IsSweepDue (s : Settings) (es : List (Event H)) (number now : ℕ) : Type 0 where
    pub is_open : has_connections number es ≡ true
    pub went_on : last_sweep number es ≤ now
    pub has_passed : s.interval_ms ≤ now - last_sweep number es
