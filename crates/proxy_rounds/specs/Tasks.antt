-- The tasks of a generation's threads.
use Rattle.std.specs.Prelude.{ℕ, List, Option, Some, None}
use Rattle.std.specs.List.{filter_map}
use Rattle.proxy_connections.specs.Assigned.{Assigned, HaveAllPlaces}
use Rattle.proxy_rounds.specs.declared.generation.Task.{Task}
use Rattle.proxy_rounds.specs.declared.generation.Task.TheVariants.{Work, Sweep, Done}

-- the place and the pass of a task's worker, if it is a worker's
abbrev pub assigned_of : Task → Option Assigned
assigned_of (Work assigned) = Some assigned
assigned_of (Sweep pass) = None
assigned_of Done = None

-- so many tasks of these are workers', and each place has one
abbrev pub HaveOwnPlaces : ℕ → List Task → Type 0
HaveOwnPlaces workers tasks = HaveAllPlaces workers (filter_map assigned_of tasks)
