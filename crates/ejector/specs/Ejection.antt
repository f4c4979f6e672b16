-- The ejection state of a list of marks, the newest first, from an opening state on. What a mark does follows from the
-- state before it, and the state is counted in the list of what all marks did.
use Rattle.std.specs.Prelude.{ℕ, ◌==◌, not, if◌then◌else◌, List, [], ◌∷◌, length, filter}
use Rattle.ejector.specs.declared.answer.Trip.{Trip}
use Rattle.ejector.specs.declared.answer.Trip.TheVariants as answer
use Rattle.ejector.specs.declared.answer.Swept.{Swept}
use Rattle.ejector.specs.declared.mark.Mark.{Mark}
use Rattle.ejector.specs.declared.mark.Mark.TheVariants.{Good, Bad, Sweep}
use Rattle.ejector.specs.declared.settings.Rules.{Rules}
use Rattle.ejector.specs.Marks.{moment}
use Rattle.ejector.specs.Deeds.{Deed}
use Rattle.ejector.specs.CountedState.{state_after}
use Rattle.ejector.specs.State.{State, hosts_of, is_out, out_count, at_moment}
use Rattle.ejector.specs.Trips.{may_eject, is_trip}
use Rattle.ejector.specs.Sweeps.{comes_back, is_ejected_in_sweep, is_kept_in_sweep}

-- WHAT A MARK DOES, by the state before it with the mark's clock

-- the deed of a mark that changes no host
abbrev pub nothing_by : Mark → Deed
nothing_by m = record { mark = m; ejected = []; kept = []; returned = []; lowered = [] }

-- the deed of a bad result that trips its host
abbrev pub trip_by : Rules → State → ℕ → Mark → Deed
trip_by R x h m = if may_eject R (out_count x) then record (nothing_by m) { ejected = h ∷ [] } else record (nothing_by m) { kept = h ∷ [] }

-- the deed of a sweep
abbrev pub sweep_by : Rules → State → Mark → Deed
sweep_by R x m = record {
  mark = m;
  ejected = filter (is_ejected_in_sweep R x) (hosts_of R);
  kept = filter (is_kept_in_sweep R x) (hosts_of R);
  returned = filter (comes_back R x) (hosts_of R);
  lowered = filter (λ h. not (is_out x h)) (hosts_of R);
}

-- what a mark does in a state
abbrev pub deed_by : Rules → State → Mark → Deed
deed_by R x (Good h t) = nothing_by (Good h t)
deed_by R x (Bad h t) = if is_trip R x h then trip_by R x h (Bad h t) else nothing_by (Bad h t)
deed_by R x (Sweep t) = sweep_by R x (Sweep t)

-- what a mark does after this state
abbrev pub deed_after : Rules → State → Mark → Deed
deed_after R before m = deed_by R (at_moment (moment m) before) m

-- THE STATE OF A LIST OF MARKS

-- the deeds with that of one mark more
abbrev pub with_deed_of : Rules → State → Mark → List Deed → List Deed
with_deed_of R O m deeds = deed_after R (state_after R O deeds) m ∷ deeds

-- what the marks did
abbrev pub deeds : Rules → State → List Mark → List Deed
deeds R O [] = []
deeds R O (m ∷ before) = with_deed_of R O m (deeds R O before)

-- the state after these marks, which found the opening state O
abbrev pub state : Rules → State → List Mark → State
state R O marks = state_after R O (deeds R O marks)

-- WHAT THE LAST MARK DID

-- what a deed tells of its result's host
abbrev pub trip_of : Deed → Trip
trip_of d = if not (length d.ejected == 0) then answer.Ejected else (if not (length d.kept == 0) then answer.Kept else answer.None)

-- what a deed tells of a sweep
abbrev pub swept_of : Deed → Swept
swept_of d = record { returned = length d.returned; ejected = length d.ejected; kept = length d.kept }

-- what a mark did to its host, and what a sweep did, after the marks before it
abbrev pub trip : Rules → State → Mark → List Mark → Trip
trip R O m before = trip_of (deed_after R (state R O before) m)

-- what a sweep answers after some marks
abbrev pub sweep_answer : Rules → State → Mark → List Mark → Swept
sweep_answer R O m before = swept_of (deed_after R (state R O before) m)
