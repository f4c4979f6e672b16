-- What the log says of hosts that are ejected.
use Rattle.std.specs.Prelude.{◌≡◌, ◌≢◌, ◌≤◌, ◌==◌, if◌then◌else◌, nat_lt, ℕ, is_some, List, Option, Some, None, slice_get, slice_set}
use Rattle.proxy_serve_core.specs.declared.ejection_log.EjectedHost.{EjectedHost}

-- the newest generation that looked, and each host that is ejected
pub record EjectionLogState : Type 0 where
  pub newest : ℕ
  pub hosts : List (Option EjectedHost)

-- the generation is none before the newest, and the log has the host out where it is seen in, or in where it is seen out
abbrev pub IsNews : EjectionLogState → ℕ → ℕ → Option EjectedHost → Type 0
IsNews log number host seen =
    (log.newest ≤ number) × (kept : Option EjectedHost) × (slice_get log.hosts host ≡ Some kept) × (is_some kept ≢ is_some seen)

-- what the log has of a host once it was seen: an ejection that it has stays as it is, with its reason
abbrev pub merged : Option EjectedHost → Option EjectedHost → Option EjectedHost
merged (Some kept) (Some seen) = if kept.at == seen.at then Some kept else Some seen
merged _ seen = seen

-- a list with the host merged, where there is one
abbrev pub with_seen : List (Option EjectedHost) → ℕ → Option EjectedHost → Option (Option EjectedHost) → List (Option EjectedHost)
with_seen hosts host seen None = hosts
with_seen hosts host seen (Some kept) = slice_set hosts host (merged kept seen)

-- the log once a generation has looked at a host: an older one than the newest changes nothing
abbrev pub noted : EjectionLogState → ℕ → ℕ → Option EjectedHost → EjectionLogState
noted log number host seen = if nat_lt number log.newest then log
    else record { newest = number; hosts = with_seen log.hosts host seen (slice_get log.hosts host) }

-- of two hosts that are out the one that returns first; the one that is out, where only one is
abbrev pub first_of : Option EjectedHost → Option EjectedHost → Option EjectedHost
first_of None other = other
first_of (Some one) None = Some one
first_of (Some one) (Some other) = if nat_lt other.until one.until then Some other else Some one
