-- Where the parts of a command go as it arrives.
use Rattle.std.specs.Prelude.{◌≡◌, ◌<◌, ◌≤◌, ◌+◌, ◌==◌, ℕ, Bool, true, false, nat_lt, if◌then◌else◌, Option, Some, None, List, length, count_by, get_or, slice_set}
use Rattle.resp_core.specs.Tree.{Tree}
use Rattle.reply_queue.specs.Queue.{QueueState, with_part}
use Rattle.proxy_history.specs.Setting.{max_waiting}
use Rattle.proxy_history.specs.Part.{Part}
use Rattle.proxy_history.specs.Arrival.{no_upstream_host, proxy_busy}
use Rattle.proxy_core.specs.Pipelines.{PipelineState, pipeline_at}
use Rattle.proxy_core.specs.declared.state.place.Place.{Place}
use Rattle.proxy_core.specs.declared.state.place.Place.TheVariants.{Waits, NoHost, Busy}
use Rattle.proxy_core.specs.declared.state.place.Placed.{Placed}

-- where a part goes that has this host and got this value at once
abbrev pub place_by : Option ℕ → Option Tree → Place
place_by None v = NoHost
place_by (Some h) None = Waits h
place_by (Some h) (Some v) = Busy

-- a part of the history as the core places it
abbrev pub placed_as : Part → Placed
placed_as p = record { number = p.number; place = place_by p.host p.local; text = p.text }

-- the value that a part gets at once
abbrev pub value_at : Place → Option Tree
value_at (Waits h) = None
value_at NoHost = Some no_upstream_host
value_at Busy = Some proxy_busy

-- the value that a placed part has at once
abbrev pub value_of_placed : Placed → Option Tree
value_of_placed p = value_at p.place

-- whether a part got no host
abbrev pub is_without_host : Place → Bool
is_without_host NoHost = true
is_without_host (Waits h) = false
is_without_host Busy = false

-- whether too many waited for the part's host
abbrev pub is_too_many : Place → Bool
is_too_many Busy = true
is_too_many NoHost = false
is_too_many (Waits h) = false

-- whether a part waits at the host
abbrev pub waits_at : ℕ → Place → Bool
waits_at h (Waits host) = host == h
waits_at h NoHost = false
waits_at h Busy = false

-- how many parts wait at the host by this place
abbrev pub one_at : ℕ → Place → ℕ
one_at h place = if waits_at h place then 1 else 0

-- how many of these wait at the host
abbrev pub count_at : ℕ → List Placed → ℕ
count_at h ps = count_by (λ (p : Placed). waits_at h p.place) ps

-- the place of the next part, whose key has this host, where these wait already and so many of its command were placed
abbrev pub next_place : List PipelineState → List ℕ → Option ℕ → Place
next_place pipelines counts None = NoHost
next_place pipelines counts (Some h) = if nat_lt (length (pipeline_at h pipelines).waiting + get_or counts h 0) max_waiting then Waits h else Busy

-- one more waits at the host
abbrev pub counted_at : Place → List ℕ → List ℕ
counted_at (Waits h) counts = slice_set counts h (get_or counts h 0 + 1)
counted_at NoHost counts = counts
counted_at Busy counts = counts

-- for each host so many parts are counted as wait there, and with them no more wait than may
pub record AreCounted (pipelines : List PipelineState) (counts : List ℕ) (placed : List Placed) : Type 0 where
  pub as_many : length counts ≡ length pipelines
  pub counted : (h : ℕ) → h < length pipelines → get_or counts h 0 ≡ count_at h placed
  pub within : (h : ℕ) → 0 < count_at h placed → h < length pipelines
  pub limit : (h : ℕ) → 0 < count_at h placed → length (pipeline_at h pipelines).waiting + count_at h placed ≤ max_waiting

-- the queue as a part has the value that it gets at once
abbrev pub with_value_at : Place → ℕ → ℕ → QueueState → QueueState
with_value_at (Waits h) command part q = q
with_value_at NoHost command part q = with_part command part no_upstream_host q
with_value_at Busy command part q = with_part command part proxy_busy q
