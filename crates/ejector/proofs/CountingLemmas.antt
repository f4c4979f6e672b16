-- Counters that go on by a mark are the state with that mark.
use Rattle.std.proofs.Common.{◌≡◌, ℕ, ◌-◌, ◌<◌, ◌≤◌, Bool, true, false, not, ◌||◌, ◌&&◌, ◌==◌, nat_lt, List, [], ◌∷◌, All, length, map, filter, get_or, set, count_by, refl, sym, ap, ◌∙◌, inl, inr, arith, if◌then◌else◌}
use Rattle.std.proofs.lemmas.Bool.{cases_Bool, cases_eq, eq-eqb, ne_eqb, lt-ltb}
use Rattle.std.proofs.lemmas.List.{ext_get_or, length-set, get_or-set_same, get_or-set_other, get_or-map, length-map}
use Rattle.std.proofs.lemmas.Simd.{map-map}
use Rattle.std.proofs.lemmas.List.Sums.{length-filter}
use Rattle.std.proofs.lemmas.List.FromFn.{length-map-range_with_len, get_or-map-range_with_len}
use Rattle.list_lemmas.proofs.CallerLemmas.{map-range_same, count_by-map, count_by-range_same}
use Rattle.ejector.specs.declared.answer.Trip.TheVariants as answer
use Rattle.ejector.specs.declared.mark.Mark.TheVariants.{Good, Bad, Sweep}
use Rattle.ejector.specs.declared.host.HostState.{HostState}
use Rattle.ejector.specs.declared.settings.Rules.{Rules}
use Rattle.ejector.specs.Deeds.{Deed}
use Rattle.ejector.specs.CountedState.{max_results, raised_multiplier, lowered_multiplier}
use Rattle.ejector.specs.State.{State, hosts_of, host_of, is_out, out_count, fresh_host}
use Rattle.ejector.specs.Trips.{may_eject, is_trip}
use Rattle.ejector.specs.Sweeps.{is_time_over, comes_back, stays_out, rate_after_returns, rates, trips_by, trips_in_sweep, is_ejected_in_sweep, is_kept_in_sweep, out_at_turn}
use Rattle.ejector.specs.Ejection.{nothing_by, deed_by, sweep_by, trip_of, swept_of}
use Rattle.ejector.specs.NextState.{host_with, with_deed, with_mark}
use Rattle.ejector.specs.Counting.{host_with_result, with_good, with_bad, tripped_host, trips_then, trip_then, outs, with_good_result, with_bad_result, with_return, is_returning, rate_then, in_new_interval, at_turn, is_ejected_at, is_kept_at, tripping_of, swept_hosts, swept_counts}
use Rattle.ejector.proofs.MemberLemmas.{among_filter}
use Rattle.ejector.proofs.OutLimitLemmas.{hosts_are}

-- a list that is changed at one place alone
one_place : (R : Rules) (f : ℕ → HostState) (xs : List HostState) (h : ℕ) (new : HostState) → length xs ≡ R.hosts → h < R.hosts
    → f h ≡ new → ((k : ℕ) → (k ≡ h → ⊥) → f k ≡ get_or xs k fresh_host) → map f (hosts_of R) ≡ set xs h new
one_place R f xs h new e l here others =
    ext_get_or fresh_host (map f (hosts_of R)) (set xs h new) (omega (arith, length-map-range_with_len f 0 R.hosts, length-set xs h new, e))
    (λ k u.
    let within : k < R.hosts = omega (arith, u, length-map-range_with_len f 0 R.hosts) in
    get_or-map-range_with_len f 0 R.hosts k k fresh_host within (omega arith) ∙ place k within)
  where
    place : (k : ℕ) → k < R.hosts → f k ≡ get_or (set xs h new) k fresh_host
    place k within = elim (cases_eq k h) [
      | inl same ↦ rw (same, get_or-set_same xs h new fresh_host (omega arith)) here
      | inr other ↦ others k other ∙ sym (get_or-set_other xs h k new fresh_host other)
    ]

-- RESULTS

pub good_here : (R : Rules) (c h t : ℕ) (s : HostState) → host_with R c (nothing_by (Good h t)) h s ≡ with_good s
good_here R c h t s = elim (cases_Bool (nat_lt s.results max_results)) [
  | inl y ↦ rw (eq-eqb h h refl, y) refl
  | inr n ↦ rw (eq-eqb h h refl, n) refl
]

pub good_other : (R : Rules) (c h t k : ℕ) (s : HostState) → (k ≡ h → ⊥) → host_with R c (nothing_by (Good h t)) k s ≡ s
good_other R c h t k s other = rw (ne_eqb h k (λ e. other (sym e))) refl

pub good_link : (R : Rules) (x : State) (h t : ℕ) → length x.hosts ≡ R.hosts → h < R.hosts → (with_mark R (Good h t) x).hosts ≡ with_good_result h x.hosts
good_link R x h t e l =
    one_place R (λ k. host_with R x.clock (nothing_by (Good h t)) k (host_of x k)) x.hosts h (with_good (host_of x h)) e l
    (good_here R x.clock h t (host_of x h)) (λ k other. good_other R x.clock h t k (host_of x k) other)

-- what a bad result does, where it trips or not, and where one more may be out or not
abbrev pub bad_deed : ℕ → ℕ → Bool → Bool → Deed
bad_deed h t trips may =
    if trips then (if may then record (nothing_by (Bad h t)) { ejected = h ∷ [] } else record (nothing_by (Bad h t)) { kept = h ∷ [] }) else nothing_by (Bad h t)

pub bad_here : (R : Rules) (c h t : ℕ) (trips may : Bool) (s : HostState)
    → host_with R c (bad_deed h t trips may) h s ≡ (if trips then tripped_host R c may (host_with_result false s) else with_bad R s)
bad_here R c h t true true s = elim (cases_Bool (nat_lt s.results max_results)) [ inl y ↦ rw (eq-eqb h h refl, y) refl | inr n ↦ rw (eq-eqb h h refl, n) refl ]
bad_here R c h t true false s = elim (cases_Bool (nat_lt s.results max_results)) [ inl y ↦ rw (eq-eqb h h refl, y) refl | inr n ↦ rw (eq-eqb h h refl, n) refl ]
bad_here R c h t false may s = elim (cases_Bool (nat_lt s.results max_results)) [
  | inl y ↦ elim (cases_Bool (s.is_out || (R.settings.consecutive == 0))) [ inl o ↦ rw (eq-eqb h h refl, y, o) refl | inr o ↦ rw (eq-eqb h h refl, y, o) refl ]
  | inr n ↦ elim (cases_Bool (s.is_out || (R.settings.consecutive == 0))) [ inl o ↦ rw (eq-eqb h h refl, n, o) refl | inr o ↦ rw (eq-eqb h h refl, n, o) refl ]
]

pub bad_other : (R : Rules) (c h t k : ℕ) (trips may : Bool) (s : HostState) → (k ≡ h → ⊥) → host_with R c (bad_deed h t trips may) k s ≡ s
bad_other R c h t k true true s other = rw (ne_eqb h k (λ e. other (sym e))) refl
bad_other R c h t k true false s other = rw (ne_eqb h k (λ e. other (sym e))) refl
bad_other R c h t k false may s other = rw (ne_eqb h k (λ e. other (sym e))) refl

is_trip_link : (R : Rules) (x : State) (h : ℕ) → h < R.hosts → is_trip R x h ≡ trips_then R (host_of x h)
is_trip_link R x h l = rw (lt-ltb h R.hosts l) refl

pub bad_deed_is : (R : Rules) (x : State) (h t : ℕ) → h < R.hosts → deed_by R x (Bad h t) ≡ bad_deed h t (trips_then R (host_of x h)) (may_eject R (out_count x))
bad_deed_is R x h t l = ap (λ trips. bad_deed h t trips (may_eject R (out_count x))) (is_trip_link R x h l)

pub bad_link : (R : Rules) (x : State) (h t : ℕ) → length x.hosts ≡ R.hosts → h < R.hosts → (with_mark R (Bad h t) x).hosts ≡ with_bad_result R x.clock h x.hosts
bad_link R x h t e l =
    let trips = trips_then R (host_of x h) in
    let may = may_eject R (out_count x) in
    ap (λ (d : Deed). (with_deed R d x).hosts) (bad_deed_is R x h t l)
    ∙ one_place R (λ k. host_with R x.clock (bad_deed h t trips may) k (host_of x k)) x.hosts h _ e l
    (bad_here R x.clock h t trips may (host_of x h)) (λ k other. bad_other R x.clock h t k trips may (host_of x k) other)

trip_of_bad : (h t : ℕ) (trips may : Bool) → trip_of (bad_deed h t trips may) ≡ (if trips then (if may then answer.Ejected else answer.Kept) else answer.None)
trip_of_bad h t true true = refl
trip_of_bad h t true false = refl
trip_of_bad h t false may = refl

pub trip_link : (R : Rules) (x : State) (h t : ℕ) → h < R.hosts → trip_of (deed_by R x (Bad h t)) ≡ trip_then R h x.hosts
trip_link R x h t l = ap trip_of (bad_deed_is R x h t l) ∙ trip_of_bad h t (trips_then R (host_of x h)) (may_eject R (out_count x))

-- SWEEPS

-- one host, by whether it is out, its time is over, it trips, and one more may be out
swept_case : (R : Rules) (now : ℕ) (out over trips may : Bool) (start streak good results m : ℕ) →
    (let s : HostState = record { is_out = out; start = start; streak = streak; good_results = good; results = results; multiplier = m } in
    let back : HostState = if out then (if over then record s { is_out = false; streak = 0 } else s) else record s { multiplier = m - 1 } in
    (record {
      is_out = if (trips && may) then true else (if (out && over) then false else out);
      start = if (trips && may) then now else start;
      streak = if (false || ((trips && may) || (trips && not may)) || (out && over)) then 0 else streak;
      good_results = 0;
      results = 0;
      multiplier = raised_multiplier R (trips && may) (lowered_multiplier (not out) m);
    }) ≡ in_new_interval (if trips then tripped_host R now may back else back))
swept_case R now true true true true start streak good results m = refl
swept_case R now true true true false start streak good results m = refl
swept_case R now true true false may start streak good results m = refl
swept_case R now true false true true start streak good results m = refl
swept_case R now true false true false start streak good results m = refl
swept_case R now true false false may start streak good results m = refl
swept_case R now false over true true start streak good results m = refl
swept_case R now false over true false start streak good results m = refl
swept_case R now false over false may start streak good results m = refl

pub sweep_at : (R : Rules) (x : State) (t k : ℕ) → k < R.hosts → host_with R x.clock (sweep_by R x (Sweep t)) k (host_of x k)
    ≡ in_new_interval (if trips_in_sweep R x k then tripped_host R x.clock (may_eject R (out_at_turn R x k)) (with_return R x.clock (host_of x k)) else with_return R x.clock (host_of x k))
sweep_at R x t k l =
    let s = host_of x k in
    rw (
      among_filter (is_ejected_in_sweep R x) k 0 R.hosts (omega arith) (omega (arith, l)),
      among_filter (is_kept_in_sweep R x) k 0 R.hosts (omega arith) (omega (arith, l)),
      among_filter (comes_back R x) k 0 R.hosts (omega arith) (omega (arith, l)),
      among_filter (λ h. not (is_out x h)) k 0 R.hosts (omega arith) (omega (arith, l)),
    )
    (swept_case R x.clock s.is_out (is_time_over R x.clock s) (trips_in_sweep R x k) (may_eject R (out_at_turn R x k)) s.start s.streak s.good_results s.results s.multiplier)

-- the hosts after the returns
abbrev back_of : Rules → State → List HostState
back_of R x = map (with_return R x.clock) x.hosts

back_is : (R : Rules) (x : State) → length x.hosts ≡ R.hosts → back_of R x ≡ map (λ h. with_return R x.clock (host_of x h)) (hosts_of R)
back_is R x e = ap (map (with_return R x.clock)) (hosts_are R x e) ∙ map-map (with_return R x.clock) (host_of x) (hosts_of R)

back_at : (R : Rules) (x : State) (k : ℕ) → length x.hosts ≡ R.hosts → k < R.hosts → get_or (back_of R x) k fresh_host ≡ with_return R x.clock (host_of x k)
back_at R x k e l = get_or-map (with_return R x.clock) x.hosts k fresh_host fresh_host (omega arith)

out_case : (R : Rules) (out over : Bool) (s : HostState) (m : ℕ) → s.is_out ≡ out
    → (if out then (if over then record s { is_out = false; streak = 0 } else s) else record s { multiplier = m }).is_out ≡ (out && not over)
out_case R true true s m e = refl
out_case R true false s m e = e
out_case R false over s m e = e

back_out : (R : Rules) (x : State) (k : ℕ) → (with_return R x.clock (host_of x k)).is_out ≡ stays_out R x k
back_out R x k = let s = host_of x k in out_case R s.is_out (is_time_over R x.clock s) s (s.multiplier - 1) refl

first_is : (R : Rules) (x : State) → length x.hosts ≡ R.hosts → outs (back_of R x) ≡ count_by (stays_out R x) (hosts_of R)
first_is R x e =
    ap outs (back_is R x e) ∙ count_by-map (λ (s : HostState). s.is_out) (λ h. with_return R x.clock (host_of x h)) (hosts_of R)
    ∙ count_by-range_same (λ h. (with_return R x.clock (host_of x h)).is_out) (stays_out R x) 0 R.hosts (λ h _ _. back_out R x h)

-- a return changes no tallies
tallies_case : (out over : Bool) (s : HostState) (m : ℕ) →
    (let back : HostState = if out then (if over then record s { is_out = false; streak = 0 } else s) else record s { multiplier = m } in
    (back.good_results ≡ s.good_results) × (back.results ≡ s.results))
tallies_case true true s m = (refl, refl)
tallies_case true false s m = (refl, refl)
tallies_case false over s m = (refl, refl)

pub back_tallies : (R : Rules) (now : ℕ) (s : HostState) → ((with_return R now s).good_results ≡ s.good_results) × ((with_return R now s).results ≡ s.results)
back_tallies R now s = tallies_case s.is_out (is_time_over R now s) s (s.multiplier - 1)

rate_at : (R : Rules) (x : State) (k : ℕ) → rate_then R (with_return R x.clock (host_of x k)) ≡ rate_after_returns R x k
rate_at R x k = let tallies = back_tallies R x.clock (host_of x k) in rw (tallies.0, tallies.1, back_out R x k) refl

rates_are : (R : Rules) (x : State) → length x.hosts ≡ R.hosts → map (rate_then R) (back_of R x) ≡ rates R x
rates_are R x e =
    ap (map (rate_then R)) (back_is R x e) ∙ map-map (rate_then R) (λ h. with_return R x.clock (host_of x h)) (hosts_of R)
    ∙ map-range_same (λ h. rate_then R (with_return R x.clock (host_of x h))) (rate_after_returns R x) 0 R.hosts (λ h _ _. rate_at R x h)

tripping_is : (R : Rules) (x : State) → length x.hosts ≡ R.hosts → tripping_of R (back_of R x) ≡ trips_in_sweep R x
tripping_is R x e = ap (trips_by R) (rates_are R x e)

turn_at : (R : Rules) (x : State) (k : ℕ) → length x.hosts ≡ R.hosts → k < R.hosts
    → at_turn R x.clock (tripping_of R (back_of R x)) (outs (back_of R x)) (back_of R x) k
    ≡ (if trips_in_sweep R x k then tripped_host R x.clock (may_eject R (out_at_turn R x k)) (with_return R x.clock (host_of x k)) else with_return R x.clock (host_of x k))
turn_at R x k e l =
    ap (λ (tripping : ℕ → Bool). at_turn R x.clock tripping (outs (back_of R x)) (back_of R x) k) (tripping_is R x e)
    ∙ ap (λ (first : ℕ). at_turn R x.clock (trips_in_sweep R x) first (back_of R x) k) (first_is R x e)
    ∙ ap (λ (s : HostState). if trips_in_sweep R x k then tripped_host R x.clock (may_eject R (out_at_turn R x k)) s else s) (back_at R x k e l)

pub sweep_link : (R : Rules) (x : State) (t : ℕ) → length x.hosts ≡ R.hosts → (with_mark R (Sweep t) x).hosts ≡ swept_hosts R x.clock x.hosts
sweep_link R x t e =
    let turn = at_turn R x.clock (tripping_of R (back_of R x)) (outs (back_of R x)) (back_of R x) in
    map-range_same (λ k. host_with R x.clock (sweep_by R x (Sweep t)) k (host_of x k)) (λ k. in_new_interval (turn k)) 0 R.hosts
    (λ k _ l. sweep_at R x t k (omega (arith, l)) ∙ ap in_new_interval (sym (turn_at R x k e (omega (arith, l)))))
    ∙ sym (map-map in_new_interval turn (hosts_of R))

-- WHAT A SWEEP ANSWERS

returned_is : (R : Rules) (x : State) → length x.hosts ≡ R.hosts → length (filter (comes_back R x) (hosts_of R)) ≡ count_by (is_returning R x.clock) x.hosts
returned_is R x e =
    length-filter (comes_back R x) (hosts_of R) ∙ sym (ap (count_by (is_returning R x.clock)) (hosts_are R x e) ∙ count_by-map (is_returning R x.clock) (host_of x) (hosts_of R))

ejected_is : (R : Rules) (x : State) → length x.hosts ≡ R.hosts
    → length (filter (is_ejected_in_sweep R x) (hosts_of R)) ≡ count_by (is_ejected_at R (tripping_of R (back_of R x)) (outs (back_of R x))) (hosts_of R)
ejected_is R x e =
    length-filter (is_ejected_in_sweep R x) (hosts_of R)
    ∙ sym (ap (λ (tripping : ℕ → Bool). count_by (is_ejected_at R tripping (outs (back_of R x))) (hosts_of R)) (tripping_is R x e)
    ∙ ap (λ (first : ℕ). count_by (is_ejected_at R (trips_in_sweep R x) first) (hosts_of R)) (first_is R x e))

kept_is : (R : Rules) (x : State) → length x.hosts ≡ R.hosts
    → length (filter (is_kept_in_sweep R x) (hosts_of R)) ≡ count_by (is_kept_at R (tripping_of R (back_of R x)) (outs (back_of R x))) (hosts_of R)
kept_is R x e =
    length-filter (is_kept_in_sweep R x) (hosts_of R)
    ∙ sym (ap (λ (tripping : ℕ → Bool). count_by (is_kept_at R tripping (outs (back_of R x))) (hosts_of R)) (tripping_is R x e)
    ∙ ap (λ (first : ℕ). count_by (is_kept_at R (trips_in_sweep R x) first) (hosts_of R)) (first_is R x e))

pub swept_link : (R : Rules) (x : State) (t : ℕ) → length x.hosts ≡ R.hosts → swept_of (deed_by R x (Sweep t)) ≡ swept_counts R x.clock x.hosts
swept_link R x t e = rw (returned_is R x e, ejected_is R x e, kept_is R x e) refl

pub shares_back : (R : Rules) (now : ℕ) (xs : List HostState) → All (λ (s : HostState). s.good_results ≤ s.results) xs
    → All (λ (s : HostState). s.good_results ≤ s.results) (map (with_return R now) xs)
shares_back R now xs all k d l =
    let within : k < length xs = omega (arith, l, length-map xs (with_return R now)) in
    let tallies = back_tallies R now (get_or xs k d) in
    rw (get_or-map (with_return R now) xs k d d within, tallies.0, tallies.1) (all k d within)
