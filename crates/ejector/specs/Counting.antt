-- How counters of the hosts go on, a mark at a time. The contracts of the code that counts cite this; no public contract does.
use Rattle.std.specs.Prelude.{ℕ, Bool, true, false, ◌==◌, ◌+◌, ◌-◌, ◌||◌, ◌&&◌, not, nat_lt, if◌then◌else◌, List, Option, None, map, get_or, set, count_by}
use Rattle.std.specs.List.{range_with_len}
use Rattle.rate_core.specs.Rate.{rate_of}
use Rattle.ejector.specs.declared.answer.Trip.{Trip}
use Rattle.ejector.specs.declared.answer.Trip.TheVariants as answer
use Rattle.ejector.specs.declared.answer.Swept.{Swept}
use Rattle.ejector.specs.declared.host.HostState.{HostState}
use Rattle.ejector.specs.declared.settings.Rules.{Rules}
use Rattle.ejector.specs.CountedState.{max_results, raised_multiplier}
use Rattle.ejector.specs.State.{fresh_host}
use Rattle.ejector.specs.Trips.{may_eject}
use Rattle.ejector.specs.Sweeps.{is_time_over, trips_by, out_at}

-- ONE HOST

-- a host with one result more in the interval, while it still counts
abbrev pub host_with_result : Bool → HostState → HostState
host_with_result ok s =
    if nat_lt s.results max_results then record s { good_results = if ok then s.good_results + 1 else s.good_results; results = s.results + 1 } else s

-- a host after a good result
abbrev pub with_good : HostState → HostState
with_good s = record (host_with_result true s) { streak = 0 }

-- a host after a bad result, before it may trip
abbrev pub with_bad : Rules → HostState → HostState
with_bad R s = record (host_with_result false s) { streak = if s.is_out || (R.settings.consecutive == 0) then s.streak else s.streak + 1 }

-- a host that is put aside at a moment
abbrev pub ejected_host : Rules → ℕ → HostState → HostState
ejected_host R now s = record s { is_out = true; start = now; streak = 0; multiplier = raised_multiplier R true s.multiplier }

-- a host that tripped and stays
abbrev pub kept_host : HostState → HostState
kept_host s = record s { streak = 0 }

-- with a trip, where `may` says whether one more may be out
abbrev pub tripped_host : Rules → ℕ → Bool → HostState → HostState
tripped_host R now may s = if may then ejected_host R now s else kept_host s

-- whether a host that is out has had its time at a moment
abbrev pub is_returning : Rules → ℕ → HostState → Bool
is_returning R now s = s.is_out && is_time_over R now s

-- a host behind the first phase of a sweep: it comes back, or its multiplier falls, or it stays out
abbrev pub with_return : Rules → ℕ → HostState → HostState
with_return R now s =
    if s.is_out then (if is_time_over R now s then record s { is_out = false; streak = 0 } else s)
    else record s { multiplier = s.multiplier - 1 }

-- the success rate that a host has in a sweep, if any
abbrev pub rate_then : Rules → HostState → Option ℕ
rate_then R s = if s.is_out || nat_lt s.results R.settings.request_volume then None else rate_of s.good_results s.results

-- whether it isn't out
abbrev pub is_in : HostState → Bool
is_in s = not s.is_out

-- a host whose tallies begin anew
abbrev pub in_new_interval : HostState → HostState
in_new_interval s = record s { good_results = 0; results = 0 }

-- ALL HOSTS

-- the hosts after a good result of one
abbrev pub with_good_result : ℕ → List HostState → List HostState
with_good_result h hosts = set hosts h (with_good (get_or hosts h fresh_host))

-- how many are out
abbrev pub outs : List HostState → ℕ
outs hosts = count_by (λ (s : HostState). s.is_out) hosts

-- whether a bad result trips its host
abbrev pub trips_then : Rules → HostState → Bool
trips_then R s = not s.is_out && nat_lt 0 R.settings.consecutive && (s.streak + 1 == R.settings.consecutive)

-- the hosts after a bad result of one at a moment
abbrev pub with_bad_result : Rules → ℕ → ℕ → List HostState → List HostState
with_bad_result R now h hosts =
    let s = get_or hosts h fresh_host in
    set hosts h (if trips_then R s then tripped_host R now (may_eject R (outs hosts)) (host_with_result false s) else with_bad R s)

-- what a bad result does to its host
abbrev pub trip_then : Rules → ℕ → List HostState → Trip
trip_then R h hosts =
    if trips_then R (get_or hosts h fresh_host) then (if may_eject R (outs hosts) then answer.Ejected else answer.Kept) else answer.None

-- a host at its turn in the sweep, where these trip
abbrev pub at_turn : Rules → ℕ → (ℕ → Bool) → ℕ → List HostState → ℕ → HostState
at_turn R now tripping first hosts h =
    if tripping h then tripped_host R now (may_eject R (out_at R tripping first h)) (get_or hosts h fresh_host) else get_or hosts h fresh_host

-- whether a host that trips in a sweep is put aside, with those before it
abbrev pub is_ejected_at : Rules → (ℕ → Bool) → ℕ → ℕ → Bool
is_ejected_at R tripping first h = tripping h && may_eject R (out_at R tripping first h)

-- whether a host that trips in a sweep stays, with those before it
abbrev pub is_kept_at : Rules → (ℕ → Bool) → ℕ → ℕ → Bool
is_kept_at R tripping first h = tripping h && not (may_eject R (out_at R tripping first h))

-- which hosts trip where these are the hosts after the returns
abbrev pub tripping_of : Rules → List HostState → ℕ → Bool
tripping_of R back = trips_by R (map (rate_then R) back)

-- a whole sweep
abbrev pub swept_hosts : Rules → ℕ → List HostState → List HostState
swept_hosts R now hosts =
    let back = map (with_return R now) hosts in
    map in_new_interval (map (at_turn R now (tripping_of R back) (outs back) back) (range_with_len 0 R.hosts))

-- what a sweep tells: how many hosts it returned, put aside and let stay
abbrev pub swept_counts : Rules → ℕ → List HostState → Swept
swept_counts R now hosts =
    let back = map (with_return R now) hosts in
    record {
      returned = count_by (is_returning R now) hosts;
      ejected = count_by (is_ejected_at R (tripping_of R back) (outs back)) (range_with_len 0 R.hosts);
      kept = count_by (is_kept_at R (tripping_of R back) (outs back)) (range_with_len 0 R.hosts);
    }
