-- No more hosts are out than the limit allows.
use Rattle.std.proofs.Common.{◌≡◌, ℕ, zero, suc, ◌+◌, ◌*◌, ◌<◌, ◌≤◌, Bool, true, false, not, ◌||◌, ◌&&◌, ◌==◌, nat_lt, List, [], ◌∷◌, length, map, count_by, refl, ap, ◌∙◌, inl, inr, arith, if◌then◌else◌}
use Rattle.std.specs.List.{range_with_len}
use Rattle.std.proofs.lemmas.Bool.{cases_Bool, or_cases, and_parts, eqb-true, ltb-true}
use Rattle.std.proofs.lemmas.List.FromFn.{fill_by_all, length-map-range_with_len}
use Rattle.list_lemmas.proofs.CallerLemmas.{count_by-map, count_by-range_most, count_by-range_same, count_by-or, count_by-range_one, count_by-range_last}
use Rattle.ejector.proofs.MemberLemmas.{among_filter}
use Rattle.ejector.specs.declared.mark.Mark.{Mark}
use Rattle.ejector.specs.declared.mark.Mark.TheVariants.{Good, Bad, Sweep}
use Rattle.ejector.specs.declared.host.HostState.{HostState}
use Rattle.ejector.specs.declared.settings.Rules.{Rules}
use Rattle.ejector.specs.Marks.{moment}
use Rattle.ejector.specs.Deeds.{Deed, is_among, ejects, returns}
use Rattle.ejector.specs.State.{State, hosts_of, host_of, is_out, out_count, at_moment, fresh_host}
use Rattle.ejector.specs.Trips.{may_eject, most_out, is_trip}
use Rattle.ejector.specs.Sweeps.{comes_back, stays_out, trips_in_sweep, out_at, out_after_turn, is_ejected_in_sweep, is_time_over}
use Rattle.ejector.specs.Ejection.{deed_by, sweep_by, nothing_by, trip_by, state}
use Rattle.ejector.specs.NextState.{with_deed, next}

-- the hosts of a state that has them all
pub hosts_are : (R : Rules) (x : State) → length x.hosts ≡ R.hosts → x.hosts ≡ map (host_of x) (hosts_of R)
hosts_are R x e = fill_by_all (host_of x) x.hosts R.hosts fresh_host e (λ k l. refl)

pub out_count_is : (R : Rules) (x : State) → length x.hosts ≡ R.hosts → out_count x ≡ count_by (is_out x) (hosts_of R)
out_count_is R x e = ap (count_by (λ (s : HostState). s.is_out)) (hosts_are R x e) ∙ count_by-map (λ (s : HostState). s.is_out) (host_of x) (hosts_of R)

-- whether a host is out with one deed more
abbrev out_with : Deed → State → ℕ → Bool
out_with d x h = if ejects h d then true else (if returns h d then false else is_out x h)

out_count_with : (R : Rules) (d : Deed) (x : State) → out_count (with_deed R d x) ≡ count_by (out_with d x) (hosts_of R)
out_count_with R d x = count_by-map (λ (s : HostState). s.is_out) _ (hosts_of R)

-- TRIPS

pub room : (R : Rules) (out : ℕ) → may_eject R out ≡ true → out + 1 ≤ most_out R
room R out e = elim (or_cases (out == 0) (nat_lt (100 * out) (R.settings.max_percent * R.hosts)) e) [
  | inl t ↦ omega (arith, eqb-true out 0 t)
  | inr t ↦ omega (arith, ltb-true _ _ t)
]

ejects_one : (h k : ℕ) (out : Bool) → (if is_among k (h ∷ []) then true else out) ≡ ((h == k) || out)
ejects_one h k out = elim (cases_Bool (h == k)) [ inl t ↦ rw t refl | inr f ↦ rw f refl ]

-- a trip lets at most one host out, and that only where there is room
trip_out : (R : Rules) (x : State) (h : ℕ) (m : Mark) → length x.hosts ≡ R.hosts → out_count x ≤ most_out R → count_by (out_with (trip_by R x h m) x) (hosts_of R) ≤ most_out R
trip_out R x h m e l = elim (cases_Bool (may_eject R (out_count x))) [
  | inl t ↦ rw t
      (rw (count_by-range_same (out_with (record (nothing_by m) { ejected = h ∷ [] }) x) (λ k. (h == k) || is_out x k) 0 R.hosts (λ k _ _. ejects_one h k (is_out x k)))
      (omega (arith, room R (out_count x) t, count_by-or (λ k. h == k) (is_out x) (hosts_of R), count_by-range_one h 0 R.hosts, out_count_is R x e)))
  | inr f ↦ rw f (omega (arith, l, out_count_is R x e))
]

if_most : (b : Bool) (d c : Deed) (R : Rules) (x : State) → count_by (out_with d x) (hosts_of R) ≤ most_out R → count_by (out_with c x) (hosts_of R) ≤ most_out R
    → count_by (out_with (if b then d else c) x) (hosts_of R) ≤ most_out R
if_most true d c R x p q = p
if_most false d c R x p q = q

-- SWEEPS

turn_out : (R : Rules) (tripping : Bool) (out : ℕ) → out_after_turn R tripping out ≡ out + (if tripping && may_eject R out then 1 else 0)
turn_out R tripping out = elim (cases_Bool (tripping && may_eject R out)) [ inl t ↦ rw t refl | inr f ↦ rw f (omega arith) ]

turn_most : (R : Rules) (tripping : Bool) (out : ℕ) → out ≤ most_out R → out_after_turn R tripping out ≤ most_out R
turn_most R tripping out l = elim (cases_Bool (tripping && may_eject R out)) [
  | inl t ↦ (let parts = and_parts tripping (may_eject R out) t in rw t (room R out parts.1))
  | inr f ↦ rw f l
]

pub turns_most : (R : Rules) (tripping : ℕ → Bool) (first k : ℕ) → first ≤ most_out R → out_at R tripping first k ≤ most_out R
turns_most R tripping first zero l = l
turns_most R tripping first (suc k) l = turn_most R (tripping k) (out_at R tripping first k) (turns_most R tripping first k l)

-- at a host's turn those are out that were at first, and those that went out before it
out_at_is : (R : Rules) (tripping : ℕ → Bool) (first k : ℕ)
    → out_at R tripping first k ≡ first + count_by (λ h. tripping h && may_eject R (out_at R tripping first h)) (range_with_len 0 k)
out_at_is R tripping first zero = omega arith
out_at_is R tripping first (suc k) =
    turn_out R (tripping k) (out_at R tripping first k)
    ∙ (let last = count_by-range_last (λ h. tripping h && may_eject R (out_at R tripping first h)) 0 k in let so_far = out_at_is R tripping first k in
    let place : 0 + k ≡ k = omega arith in
    rw (last, place) (omega (arith, so_far)))

out_at_end : (ejected out over : Bool) → (if ejected then true else (if out && over then false else out)) ≡ (ejected || (out && not over))
out_at_end true out over = refl
out_at_end false true true = refl
out_at_end false true false = refl
out_at_end false false over = refl

sweep_at : (R : Rules) (x : State) (m : Mark) (h : ℕ) → h < R.hosts → out_with (sweep_by R x m) x h ≡ (is_ejected_in_sweep R x h || stays_out R x h)
sweep_at R x m h l =
    rw (among_filter (is_ejected_in_sweep R x) h 0 R.hosts (omega arith) (omega (arith, l)), among_filter (comes_back R x) h 0 R.hosts (omega arith) (omega (arith, l)))
    (out_at_end (is_ejected_in_sweep R x h) (is_out x h) (is_time_over R x.clock (host_of x h)))

and_first : (a b : Bool) → (a && b) ≡ true → a ≡ true
and_first a b e = let parts = and_parts a b e in parts.0

-- after the returns there are no more than before
stays_most : (R : Rules) (x : State) → count_by (stays_out R x) (hosts_of R) ≤ count_by (is_out x) (hosts_of R)
stays_most R x = count_by-range_most (stays_out R x) (is_out x) 0 R.hosts (λ h _ _ e. and_first (is_out x h) (not (is_time_over R x.clock (host_of x h))) e)

sweep_out : (R : Rules) (x : State) (m : Mark) → length x.hosts ≡ R.hosts → out_count x ≤ most_out R → count_by (out_with (sweep_by R x m) x) (hosts_of R) ≤ most_out R
sweep_out R x m e l =
    let same = count_by-range_same (out_with (sweep_by R x m) x) (λ h. is_ejected_in_sweep R x h || stays_out R x h) 0 R.hosts (λ h _ u. sweep_at R x m h (omega (arith, u))) in
    let few : count_by (stays_out R x) (hosts_of R) ≤ most_out R = omega (arith, l, stays_most R x, out_count_is R x e) in
    let first = count_by (stays_out R x) (hosts_of R) in
    rw same (omega (arith, count_by-or (is_ejected_in_sweep R x) (stays_out R x) (hosts_of R), out_at_is R (trips_in_sweep R x) first R.hosts, turns_most R (trips_in_sweep R x) first R.hosts few))

-- MARKS

deed_out : (R : Rules) (x : State) (m : Mark) → length x.hosts ≡ R.hosts → out_count x ≤ most_out R → count_by (out_with (deed_by R x m) x) (hosts_of R) ≤ most_out R
deed_out R x (Good h t) e l = omega (arith, l, out_count_is R x e)
deed_out R x (Bad h t) e l = if_most (is_trip R x h) (trip_by R x h (Bad h t)) (nothing_by (Bad h t)) R x (trip_out R x h (Bad h t) e l) (omega (arith, l, out_count_is R x e))
deed_out R x (Sweep t) e l = sweep_out R x (Sweep t) e l

pub next_length : (R : Rules) (m : Mark) (x : State) → length (next R m x).hosts ≡ R.hosts
next_length R m x = length-map-range_with_len _ 0 R.hosts

pub next_out : (R : Rules) (m : Mark) (x : State) → length x.hosts ≡ R.hosts → out_count x ≤ most_out R → out_count (next R m x) ≤ most_out R
next_out R m x e l = let y = at_moment (moment m) x in rw (out_count_with R (deed_by R y m) y) (deed_out R y m e l)

pub state_length : (R : Rules) (O : State) (marks : List Mark) → length (state R O marks).hosts ≡ R.hosts
state_length R O marks = length-map-range_with_len _ 0 R.hosts
