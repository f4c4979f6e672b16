-- The newest looks at the generations that live.
use Rattle.std.specs.Prelude.{ℕ, Bool, false, ◌==◌, ◌||◌, not, Option, Some, None, List, [], ◌∷◌, ◌++◌, filter, find}
use Rattle.std.specs.List.{list_any}
use Rattle.proxy_generations.specs.Events.{Event, newest, draining}
use Rattle.proxy_stats.specs.declared.tallied_core.Sight.{Sight}
use Rattle.proxy_server.specs.declared.living.Living.{Living}

-- a look at the generation of this number
abbrev pub seen_of : ℕ → Sight → Living
seen_of number sight = record {
  number = number;
  counts = sight.counts;
  refused_names = sight.refused_names;
  look = record { steps = sight.handover.steps; bytes = sight.handover.bytes; load = sight.load };
}

-- the looks at all other generations
abbrev pub without : ℕ → List Living → List Living
without number living = filter (λ l. not (l.number == number)) living

-- the looks, where the newest one at its generation is this one
abbrev pub with_look : Living → List Living → List Living
with_look seen living = without seen.number living ++ seen ∷ []

-- a number is this one
abbrev pub is_number : Option ℕ → ℕ → Bool
is_number None n = false
is_number (Some m) n = m == n

-- the look at the generation of this number, if there is one
abbrev pub look_at : Option ℕ → List Living → Option Living
look_at number living = find (λ l. is_number number l.number) living

module _ {H : Type 0} where
  -- whether a generation drains
  abbrev pub is_draining : List (Event H) → ℕ → Bool
  is_draining es n = list_any (λ m. m == n) (draining es)

  -- whether a generation is neither the newest open one nor drains
  abbrev pub is_beside : List (Event H) → ℕ → Bool
  is_beside es n = not (is_number (newest es) n || is_draining es n)
