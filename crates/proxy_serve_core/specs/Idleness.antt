-- Since when a client is idle, by what was seen of it.
use Rattle.std.specs.Prelude.{◌≡◌, ◌≤◌, ◌+◌, ◌↔◌, ◌++◌, ℕ, List, [], ◌∷◌, true, false, Some, None}
use Rattle.std.specs.List.{All}
use Rattle.proxy_serve_core.specs.declared.idleness.ClientSight.{ClientSight}
use Rattle.proxy_serve_core.specs.declared.idleness.Idleness.{Idleness}

-- at this sight the client was at rest, and as many of its bytes had come
abbrev pub Rests : ℕ → ClientSight → Type 0
Rests came sight = (sight.is_at_rest ≡ true) × (sight.came ≡ came)

-- By these sights of it, the newest first, a client has been idle since this moment: at the first sight of then and at each later one
-- it was at rest, with as many bytes come, and at the one before it wasn't so.
pub record HasRestedSince (sights : List ClientSight) (moment : ℕ) : Type 0 where
  pub later : List ClientSight
  pub first : ClientSight
  pub before : List ClientSight
  pub are : sights ≡ later ++ first ∷ before
  pub at : first.now ≡ moment
  pub rests : All (Rests first.came) (later ++ first ∷ [])
  pub begins : (other : ClientSight) (older : List ClientSight) → before ≡ other ∷ older → ¬ (Rests first.came other)

-- so for this many milliseconds or more
abbrev pub HasRested : ℕ → ℕ → List ClientSight → Type 0
HasRested now ms sights = (moment : ℕ) × HasRestedSince sights moment × (moment + ms ≤ now)

-- what is kept of these sights: since when the client is idle, how many bytes had come at the newest, and none where it wasn't at rest
pub record Tells (sights : List ClientSight) (kept : Idleness) : Type 0 where
  pub since : (moment : ℕ) → (kept.since ≡ Some moment) ↔ HasRestedSince sights moment
  pub came : (sight : ClientSight) (older : List ClientSight) → sights ≡ sight ∷ older → kept.came ≡ sight.came
  pub none : (sight : ClientSight) (older : List ClientSight) → sights ≡ sight ∷ older → kept.since ≡ None
      → sight.is_at_rest ≡ false

-- by what is kept, the client is idle for this many milliseconds or more
abbrev pub Lasts : ℕ → ℕ → Idleness → Type 0
Lasts now ms kept = (moment : ℕ) × (kept.since ≡ Some moment) × (moment + ms ≤ now)
