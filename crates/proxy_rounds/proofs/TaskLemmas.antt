-- A generation's tasks, one more at a time.
use Rattle.std.proofs.Common.{◌≡◌, ◌∙◌, ◌+◌, ℕ, List, [], ◌∷◌, ◌++◌, Some, None, ap, append-nil, map, sym, arith}
use Rattle.std.specs.List.{filter_map}
use Rattle.std.proofs.lemmas.List.{map-append}
use Rattle.std.proofs.lemmas.List.Elements.{filter_map-append}
use Rattle.std.proofs.lemmas.List.FromFn.{map-range_with_len_more}
use Rattle.proxy_notices.specs.declared.place.Place.{Place}
use Rattle.proxy_connections.specs.Assigned.{Assigned, HaveFirstPlaces, first_places}
use Rattle.proxy_rounds.specs.Tasks.{assigned_of}
use Rattle.proxy_rounds.specs.declared.generation.Task.{Task}

-- one worker more, at the next place
pub one_worker_more : (workers n : ℕ) (tasks new : List Task) (task : Task) → new ≡ tasks ++ task ∷ []
    → (a : Assigned) × (a.place ≡ record { index = n; workers = workers }) × (assigned_of task ≡ Some a)
    → HaveFirstPlaces workers n (filter_map assigned_of tasks) → HaveFirstPlaces workers (n + 1) (filter_map assigned_of new)
one_worker_more workers n tasks new task is (a, at_place, assigned) places =
    rw (is, filter_map-append assigned_of tasks (task ∷ []), assigned, map-append (λ (b : Assigned). b.place) (filter_map assigned_of tasks) (a ∷ []), at_place, places)
    (sym (map-range_with_len_more (λ (index : ℕ). record { index = index; workers = workers }) 0 n n (omega arith)))

-- one task more, that is no worker's
pub one_task_more : (workers n : ℕ) (tasks new : List Task) (task : Task) → new ≡ tasks ++ task ∷ []
    → assigned_of task ≡ None → HaveFirstPlaces workers n (filter_map assigned_of tasks) → HaveFirstPlaces workers n (filter_map assigned_of new)
one_task_more workers n tasks new task is no_place places =
    rw (is, filter_map-append assigned_of tasks (task ∷ []), no_place, append-nil (filter_map assigned_of tasks)) places
