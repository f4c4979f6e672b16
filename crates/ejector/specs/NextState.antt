-- The state after a mark, by the state before it alone: nothing else of the list of marks matters.
use Rattle.std.specs.Prelude.{ℕ, Bool, true, false, ◌==◌, ◌+◌, ◌||◌, ◌&&◌, not, nat_lt, if◌then◌else◌, map}
use Rattle.ejector.specs.declared.host.HostState.{HostState}
use Rattle.ejector.specs.declared.mark.Mark.{Mark}
use Rattle.ejector.specs.declared.settings.Rules.{Rules}
use Rattle.ejector.specs.Marks.{moment, is_good, is_bad, is_result, is_sweep}
use Rattle.ejector.specs.Deeds.{Deed, ejects, returns, lowers, ends_streak}
use Rattle.ejector.specs.CountedState.{max_results, raised_multiplier, lowered_multiplier}
use Rattle.ejector.specs.State.{State, hosts_of, host_of, at_moment}
use Rattle.ejector.specs.Ejection.{deed_by}

-- whether a mark is a result of a host that still counts in its interval
abbrev pub counts : Bool → HostState → Bool
counts is_one s = is_one && nat_lt s.results max_results

-- a host with one deed more, at the clock of that deed's mark
abbrev pub host_with : Rules → ℕ → Deed → ℕ → HostState → HostState
host_with R clock d h s = record {
  is_out = if ejects h d then true else (if returns h d then false else s.is_out);
  start = if ejects h d then clock else s.start;
  streak =
      if ends_streak h d then 0
      else (if is_bad h d.mark && not (s.is_out || (R.settings.consecutive == 0)) then s.streak + 1 else s.streak);
  good_results = if is_sweep d.mark then 0 else (if counts (is_good h d.mark) s then s.good_results + 1 else s.good_results);
  results = if is_sweep d.mark then 0 else (if counts (is_result h d.mark) s then s.results + 1 else s.results);
  multiplier = raised_multiplier R (ejects h d) (lowered_multiplier (lowers h d) s.multiplier);
}

-- a state with one deed more, whose moment has come
abbrev pub with_deed : Rules → Deed → State → State
with_deed R d x = record { clock = x.clock; hosts = map (λ h. host_with R x.clock d h (host_of x h)) (hosts_of R) }

-- a state with one mark more, whose moment has come
abbrev pub with_mark : Rules → Mark → State → State
with_mark R m x = with_deed R (deed_by R x m) x

-- the state behind one mark, by the state before it alone
abbrev pub next : Rules → Mark → State → State
next R m before = with_mark R m (at_moment (moment m) before)
