-- Worked lists of marks, in their order, computed by the definitions.
use Rattle.std.proofs.Common.{◌≡◌, ℕ, zero, suc, true, false, List, [], ◌∷◌, ◌++◌, replicate, reverse, refl}
use Rattle.ejector.specs.declared.answer.Trip.{Trip}
use Rattle.ejector.specs.declared.answer.Trip.TheVariants as answer
use Rattle.ejector.specs.declared.answer.Swept.{Swept}
use Rattle.ejector.specs.declared.mark.Mark.{Mark}
use Rattle.ejector.specs.declared.mark.Mark.TheVariants.{Good, Bad, Sweep}
use Rattle.ejector.specs.declared.settings.Rules.{Rules}
use Rattle.ejector.specs.Settings.{default_settings}
use Rattle.ejector.specs.State.{State, fresh_state, host_of, is_out}
use Rattle.ejector.specs.Ejection.{state, trip, sweep_answer, deeds, trip_of}
use Rattle.ejector.specs.Deeds.{Deed}
use Rattle.ejector.specs.UsableHosts.{is_panic, is_usable}

abbrev rules : ℕ → ℕ → Rules
rules n percent = record { hosts = n; settings = record default_settings { max_percent = percent } }

-- the state after marks in their order
abbrev after : Rules → List Mark → State
after R marks = state R (fresh_state R) (reverse marks)

-- what each did, the last one first
abbrev answers_in : List Deed → List Trip
answers_in [] = []
answers_in (d ∷ ds) = trip_of d ∷ answers_in ds

abbrev answers : Rules → List Mark → List Trip
answers R marks = reverse (answers_in (deeds R (fresh_state R) (reverse marks)))

abbrev last_sweep : Rules → List Mark → ℕ → Swept
last_sweep R marks t = sweep_answer R (fresh_state R) (Sweep t) (reverse marks)

abbrev sums : ℕ → ℕ → ℕ → Swept
sums r e k = record { returned = r; ejected = e; kept = k }

abbrev ten : Rules
ten = rules 10 10

abbrev five : ℕ → List Mark
five h = replicate 5 (Bad h 0)

-- the limit, and a trip that ends in Kept ends the streak
row_limit : answers ten (five 0 ++ five 1 ++ five 1)
    ≡ answer.None ∷ answer.None ∷ answer.None ∷ answer.None ∷ answer.Ejected ∷ answer.None ∷ answer.None ∷ answer.None ∷ answer.None ∷ answer.Kept
    ∷ answer.None ∷ answer.None ∷ answer.None ∷ answer.None ∷ answer.Kept ∷ []
row_limit = refl

-- one good result puts a streak to 0
row_streak : answers ten (replicate 4 (Bad 2 0) ++ Good 2 0 ∷ replicate 4 (Bad 2 0)) ≡ replicate 9 answer.None
row_streak = refl

-- one host alone, with a limit of 0 percent
row_alone : (trip (rules 1 0) (fresh_state (rules 1 0)) (Bad 0 0) (replicate 4 (Bad 0 0)) ≡ answer.Ejected) × (is_usable (rules 1 0) (after (rules 1 0) (five 0)) 0 ≡ true)
    × (is_panic (rules 1 0) (after (rules 1 0) (five 0)) ≡ true)
row_alone = (refl, refl, refl)

-- out until the sweep at which its time is over, and the second time for twice as long
abbrev first_out : List Mark
first_out = replicate 5 (Bad 0 1000) ++ Sweep 30999 ∷ []

row_return : (is_out (after ten first_out) 0 ≡ true) × (is_out (after ten (first_out ++ Sweep 31000 ∷ [])) 0 ≡ false)
    × ((host_of (after ten (first_out ++ Sweep 31000 ∷ [])) 0).multiplier ≡ 1)
row_return = (refl, refl, refl)

abbrev again : List Mark
again = first_out ++ Sweep 31000 ∷ replicate 5 (Bad 0 32000)

row_again : ((host_of (after ten again) 0).multiplier ≡ 2) × (is_out (after ten (again ++ Sweep 91999 ∷ [])) 0 ≡ true)
    × (is_out (after ten (again ++ Sweep 92000 ∷ [])) 0 ≡ false)
row_again = (refl, refl, refl)

-- four hosts, of which three or two are out
abbrev four : Rules
four = rules 4 100

row_panic : (is_panic four (after four (five 0 ++ five 1 ++ five 2)) ≡ true) × (is_panic four (after four (five 0 ++ five 1)) ≡ false)
    × (is_usable four (after four (five 0 ++ five 1)) 0 ≡ false) × (is_usable four (after four (five 0 ++ five 1)) 2 ≡ true)
row_panic = (refl, refl, refl, refl)

-- SWEEPS

abbrev rated : ℕ → Rules
rated volume = record { hosts = 10; settings = record default_settings { request_volume = volume; factor = 1000 } }

abbrev good_to : ℕ → ℕ → ℕ → List Mark
good_to n t zero = []
good_to n t (suc h) = good_to n t h ++ replicate n (Good h t)

abbrev half : ℕ → ℕ → List Mark
half h t = Good h t ∷ Bad h t ∷ Good h t ∷ Bad h t ∷ []

-- two outliers, and a limit of one: the lower number goes out and the other is kept
row_two_outliers : last_sweep (rated 4) (good_to 4 0 8 ++ half 8 0 ++ half 9 0) 0 ≡ sums 0 1 1
row_two_outliers = refl

-- a return makes room for an ejection in the same sweep
abbrev makes_room : List Mark
makes_room = replicate 5 (Bad 9 0) ++ Sweep 1 ∷ good_to 4 5 8 ++ half 8 5

row_room : (last_sweep (rated 4) makes_room 30000 ≡ sums 1 1 0) × (last_sweep (rated 4) makes_room 29999 ≡ sums 0 0 1)
row_room = (refl, refl)

-- a host that returns and is ejected in one sweep: one higher, not lowered, and out from this sweep on
abbrev back_and_out : List Mark
back_and_out = replicate 5 (Bad 9 0) ++ good_to 5 5 9

row_back_and_out : (last_sweep (rated 5) back_and_out 30000 ≡ sums 1 1 0)
    × ((host_of (after (rated 5) (back_and_out ++ Sweep 30000 ∷ [])) 9).multiplier ≡ 2)
    × (last_sweep (rated 5) (back_and_out ++ Sweep 30000 ∷ Sweep 89999 ∷ []) 90000 ≡ sums 1 0 0)
row_back_and_out = (refl, refl, refl)

-- tallies begin again with each interval
row_second_interval : (last_sweep (rated 4) (good_to 4 0 9 ++ half 9 0 ++ Sweep 0 ∷ good_to 4 1 9) 1 ≡ sums 0 0 0)
    × (last_sweep (rated 4) (good_to 4 0 10 ++ Sweep 0 ∷ good_to 4 1 9 ++ half 9 1) 1 ≡ sums 0 1 0)
row_second_interval = (refl, refl)

-- an ejection that is told with a moment below the clock begins at the clock
row_late : last_sweep ten (Good 3 1000 ∷ replicate 5 (Bad 0 7) ++ Sweep 30999 ∷ []) 31000 ≡ sums 1 0 0
row_late = refl

-- a result of a host that is out moves the clock, and counts for no streak
row_clock : last_sweep ten (five 0 ++ Bad 0 30000 ∷ []) 7 ≡ sums 1 0 0
row_clock = refl

-- one lower for each sweep at which it was not out, and not at that of its return
abbrev lower : Rules
lower = record { hosts = 10; settings = record default_settings { base_ms = 10; max_ms = 1000; consecutive = 1 } }

abbrev twice_out : List Mark
twice_out = Bad 0 0 ∷ Sweep 10 ∷ Bad 0 10 ∷ Sweep 30 ∷ []

row_lowered : ((host_of (after lower twice_out) 0).multiplier ≡ 2) × ((host_of (after lower (twice_out ++ Sweep 31 ∷ [])) 0).multiplier ≡ 1)
    × ((host_of (after lower (twice_out ++ Sweep 31 ∷ Sweep 32 ∷ Sweep 33 ∷ [])) 0).multiplier ≡ 0)
row_lowered = (refl, refl, refl)

-- with that monitor off no bad result trips, and rates still do
abbrev off : Rules
off = record { hosts = 10; settings = record default_settings { consecutive = 0; request_volume = 2; factor = 1000 } }

row_off : (trip off (fresh_state off) (Bad 9 0) (replicate 30 (Bad 9 0)) ≡ answer.None) × (last_sweep off (replicate 30 (Bad 9 0) ++ good_to 2 0 9) 0 ≡ sums 0 1 0)
row_off = (refl, refl)
