-- Which worker has which host.
use Rattle.std.specs.Prelude.{◌≡◌, ◌==◌, ◌%◌, ℕ, List, filter}
use Rattle.std.specs.List.{range_with_len}
use Rattle.proxy_notices.specs.declared.place.Place.{Place}

-- the worker that has a host, among so many
abbrev pub worker_of : ℕ → ℕ → ℕ
worker_of host workers = host % workers

-- the worker at this place has the host
abbrev pub IsOf : Place → ℕ → Type 0
IsOf place host = worker_of host place.workers ≡ place.index

-- the numbers of the hosts that the worker at this place has, of so many hosts, from the lowest on
abbrev pub hosts_of : Place → ℕ → List ℕ
hosts_of place hosts = filter (λ h. worker_of h place.workers == place.index) (range_with_len 0 hosts)
