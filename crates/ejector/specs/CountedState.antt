-- The state that marks lead to from an opening state: it is counted in the list of what the marks did, and what no mark
-- has set anew is the opening's.
use Rattle.std.specs.Prelude.{ℕ, Bool, ◌==◌, ◌+◌, ◌-◌, ◌/◌, ◌^◌, ◌||◌, ◌&&◌, not, min, max, if◌then◌else◌, List, [], ◌∷◌, length, map, filter, take, reverse, count_by}
use Rattle.std.specs.List.{list_any}
use Rattle.ejector.specs.declared.host.HostState.{HostState}
use Rattle.ejector.specs.declared.mark.Mark.{Mark}
use Rattle.ejector.specs.declared.settings.Rules.{Rules}
use Rattle.ejector.specs.Marks.{moment, is_good, is_bad, is_result}
use Rattle.ejector.specs.Deeds.{Deed, ejects, returns, lowers, ends_streak, ends_interval, after_last, up_to_last}
use Rattle.ejector.specs.State.{State, hosts_of, host_of, is_out}

-- the greatest of the opening's clock and the moments of all marks
abbrev pub clock_of : State → List Deed → ℕ
clock_of O [] = O.clock
clock_of O (d ∷ before) = max (clock_of O before) (moment d.mark)

-- a host is out if it was ejected or was out at the opening, and no deed after that returned it
abbrev pub is_out_after : State → ℕ → List Deed → Bool
is_out_after O h deeds =
    (list_any (ejects h) deeds || is_out O h)
    && not (list_any (returns h) (after_last (ejects h) deeds))

-- the clock at its last ejection, and the opening's start where none was
abbrev pub start_of : State → ℕ → List Deed → ℕ
start_of O h deeds =
    if list_any (ejects h) deeds then clock_of O (up_to_last (ejects h) deeds)
    else (host_of O h).start

-- STREAKS

-- what is left of the opening's streak: all of it until a deed ends it
abbrev pub opening_streak : State → ℕ → List Deed → ℕ
opening_streak O h deeds = if list_any (ends_streak h) deeds then 0 else (host_of O h).streak

-- How many bad results a host had after its last good result, trip and return, with the opening's streak where none of
-- these came. None count while it is out, or where that monitor is off.
abbrev pub streak_of : Rules → State → ℕ → List Deed → ℕ
streak_of R O h deeds =
    if is_out_after O h deeds || (R.settings.consecutive == 0) then 0
    else opening_streak O h deeds
    + count_by (λ (d : Deed). is_bad h d.mark) (after_last (ends_streak h) deeds)

-- TALLIES

-- of a host's results in an interval the first so many count
abbrev pub max_results : ℕ
max_results = 2 ^ 32 - 1

-- what is left of the opening's tallies: all of them until a sweep
abbrev pub opening_good_results : State → ℕ → List Deed → ℕ
opening_good_results O h deeds =
    if list_any ends_interval deeds then 0 else (host_of O h).good_results

-- the results that the opening state still counts for a host: none once an interval has ended
abbrev pub opening_results : State → ℕ → List Deed → ℕ
opening_results O h deeds = if list_any ends_interval deeds then 0 else (host_of O h).results

-- a host's results after the last sweep that count beside the opening's, in their order
abbrev pub results_of : State → ℕ → List Deed → List Mark
results_of O h deeds =
    take (max_results - opening_results O h deeds)
    (reverse (filter (is_result h) (map (λ (d : Deed). d.mark) (after_last ends_interval deeds))))

-- MULTIPLIERS

-- no ejection lasts longer than max_ms, so no multiplier is above max_ms / base_ms, rounded up
abbrev pub max_multiplier : Rules → ℕ
max_multiplier R = (R.settings.max_ms + R.settings.base_ms - 1) / R.settings.base_ms

-- one higher for each ejection, up to the most
abbrev pub raised_multiplier : Rules → Bool → ℕ → ℕ
raised_multiplier R ejected m = if ejected then min (m + 1) (max_multiplier R) else m

-- one lower for each sweep that found the host not out, but not below 0
abbrev pub lowered_multiplier : Bool → ℕ → ℕ
lowered_multiplier not_out m = if not_out then m - 1 else m

-- from the opening's on
abbrev pub multiplier_of : Rules → State → ℕ → List Deed → ℕ
multiplier_of R O h [] = (host_of O h).multiplier
multiplier_of R O h (d ∷ before) =
    raised_multiplier R (ejects h d) (lowered_multiplier (lowers h d) (multiplier_of R O h before))

-- THE STATE AFTER DEEDS

-- how a host stands after some deeds
abbrev pub host_after : Rules → State → List Deed → ℕ → HostState
host_after R O deeds h = record {
  is_out = is_out_after O h deeds;
  start = start_of O h deeds;
  streak = streak_of R O h deeds;
  good_results = opening_good_results O h deeds + count_by (is_good h) (results_of O h deeds);
  results = opening_results O h deeds + length (results_of O h deeds);
  multiplier = multiplier_of R O h deeds;
}

-- the state after some deeds, from an opening state
abbrev pub state_after : Rules → State → List Deed → State
state_after R O deeds =
    record { clock = clock_of O deeds; hosts = map (host_after R O deeds) (hosts_of R) }
