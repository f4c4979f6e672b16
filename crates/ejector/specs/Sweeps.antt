-- What a sweep does, by the state before it with the sweep's clock. First hosts come back, then outliers trip one after the other.
use Rattle.std.specs.Prelude.{ℕ, zero, suc, Bool, ◌+◌, ◌-◌, ◌*◌, ◌||◌, ◌&&◌, not, min, nat_lt, nat_le, if◌then◌else◌, List, Option, None, length, map, count_by}
use Rattle.rate_core.specs.Rate.{rate_of}
use Rattle.rate_core.specs.Outlier.{known_rates, is_outlier}
use Rattle.ejector.specs.declared.host.HostState.{HostState}
use Rattle.ejector.specs.declared.settings.Rules.{Rules}
use Rattle.ejector.specs.State.{State, hosts_of, host_of, is_out}
use Rattle.ejector.specs.Trips.{may_eject}

-- RETURNS

-- an ejection lasts base_ms times the multiplier, but no longer than max_ms
abbrev pub is_time_over : Rules → ℕ → HostState → Bool
is_time_over R clock s = nat_le (min (R.settings.base_ms * s.multiplier) R.settings.max_ms) (clock - s.start)

-- whether a sweep brings a host back
abbrev pub comes_back : Rules → State → ℕ → Bool
comes_back R x h = is_out x h && is_time_over R x.clock (host_of x h)

-- whether a host is out after the returns
abbrev pub stays_out : Rules → State → ℕ → Bool
stays_out R x h = is_out x h && not (is_time_over R x.clock (host_of x h))

-- SUCCESS RATES

-- the rates, made once, after the returns: of each host that isn't out and has results enough
abbrev pub rate_after_returns : Rules → State → ℕ → Option ℕ
rate_after_returns R x h =
    if stays_out R x h || nat_lt (host_of x h).results R.settings.request_volume then None
    else rate_of (host_of x h).good_results (host_of x h).results

-- the success rates in a sweep, of each host
abbrev pub rates : Rules → State → List (Option ℕ)
rates R x = map (rate_after_returns R x) (hosts_of R)

-- whether a host trips: it is an outlier, and hosts enough have a rate
abbrev pub trips_by : Rules → List (Option ℕ) → ℕ → Bool
trips_by R rates h = nat_le R.settings.success_hosts (length (known_rates rates)) && is_outlier rates h R.settings.factor

-- whether a host trips in a sweep
abbrev pub trips_in_sweep : Rules → State → ℕ → Bool
trips_in_sweep R x h = trips_by R (rates R x) h

-- TRIPS, one after the other by rising host number

-- how many are out after a host's turn
abbrev pub out_after_turn : Rules → Bool → ℕ → ℕ
out_after_turn R tripping out = if tripping && may_eject R out then out + 1 else out

-- how many are out when a host's turn comes: those that were out at first, and those that tripped before it and went out
abbrev pub out_at : Rules → (ℕ → Bool) → ℕ → ℕ → ℕ
out_at R tripping first zero = first
out_at R tripping first (suc h) = out_after_turn R (tripping h) (out_at R tripping first h)

-- how many hosts are out when a host's turn comes in a sweep
abbrev pub out_at_turn : Rules → State → ℕ → ℕ
out_at_turn R x h = out_at R (trips_in_sweep R x) (count_by (stays_out R x) (hosts_of R)) h

-- whether a sweep puts a host aside
abbrev pub is_ejected_in_sweep : Rules → State → ℕ → Bool
is_ejected_in_sweep R x h = trips_in_sweep R x h && may_eject R (out_at_turn R x h)

-- whether a host trips in a sweep and stays
abbrev pub is_kept_in_sweep : Rules → State → ℕ → Bool
is_kept_in_sweep R x h = trips_in_sweep R x h && not (may_eject R (out_at_turn R x h))
