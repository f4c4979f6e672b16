-- Looks at several generations, added up.
use Rattle.std.specs.Prelude.{◌≡◌, ℕ, Bool, false, ◌+◌, ◌<◌, ◌||◌, List, map, sum_by, slice_index_or}
use Rattle.std.specs.List.{list_any}
use Rattle.proxy_pages.specs.declared.snapshot.Look.{Look}
use Rattle.proxy_stats.specs.declared.load.HostLoad.{HostLoad}
use Rattle.proxy_stats.specs.Sums.{capped_sum}

-- two loads of a host, added up
abbrev pub with_load : HostLoad → HostLoad → HostLoad
with_load one other = record {
  waiting = capped_sum (one.waiting + other.waiting);
  flying = capped_sum (one.flying + other.flying);
  is_out = one.is_out || other.is_out;
}

-- whether a look has a host out
abbrev pub is_out_at : Look → ℕ → Bool
is_out_at look h = (slice_index_or look.load.hosts h (record { waiting = 0; flying = 0; is_out = false })).is_out

-- a host's load is the sum over these, and it is out where it is out in any
pub record IsHostLoadSum (all : List HostLoad) (l : HostLoad) : Type 0 where
  pub waiting : l.waiting ≡ capped_sum (sum_by (λ a. a.waiting) all)
  pub flying : l.flying ≡ capped_sum (sum_by (λ a. a.flying) all)
  pub is_out : l.is_out ≡ list_any (λ a. a.is_out) all

-- each number is the sum over these looks, or the greatest `u64` where that is more; there is a panic where one of them has it
pub record IsLookSum (all : List Look) (l : Look) : Type 0 where
  pub steps : l.steps ≡ capped_sum (sum_by (λ a. a.steps) all)
  pub bytes : l.bytes ≡ capped_sum (sum_by (λ a. a.bytes) all)
  pub connections : l.load.connections ≡ capped_sum (sum_by (λ a. a.load.connections) all)
  pub in_panic : l.load.in_panic ≡ list_any (λ a. a.load.in_panic) all
  pub hosts : (h : ℕ) (d : HostLoad) → h < 64
      → IsHostLoadSum (map (λ a. slice_index_or a.load.hosts h d) all) (slice_index_or l.load.hosts h d)
