-- One deed more in the list: what is read off it then.
use Rattle.std.proofs.Common.{◌≡◌, ℕ, ◌+◌, ◌-◌, ◌<◌, Bool, true, false, not, ◌||◌, ◌&&◌, ◌==◌, nat_lt, cond, List, [], ◌∷◌, ◌++◌, length, map, filter, take, reverse, count_by, get_or, refl, sym, ap, ◌∙◌, inl, inr, arith, if◌then◌else◌}
use Rattle.std.specs.List.{list_any}
use Rattle.std.proofs.lemmas.Bool.{cases_Bool, or_parts, cases_lt, lt-ltb, le-ltb}
use Rattle.std.proofs.lemmas.List.{take_all, length_push, length-take-le, take-append-le, reverse-append}
use Rattle.std.proofs.lemmas.List.Sums.{sum_by-cons, sum_by_push}
use Rattle.std.proofs.lemmas.List.FromFn.{get_or-map-range_with_len}
use Rattle.list_lemmas.proofs.CallerLemmas.{map-range_same}
use Rattle.ejector.specs.declared.mark.Mark.{Mark}
use Rattle.ejector.specs.declared.mark.Mark.TheVariants.{Good, Bad, Sweep}
use Rattle.ejector.specs.declared.host.HostState.{HostState}
use Rattle.ejector.specs.declared.settings.Rules.{Rules}
use Rattle.ejector.specs.Marks.{moment, is_good, is_bad, is_result, is_sweep}
use Rattle.ejector.specs.Deeds.{Deed, is_among, ejects, trips, returns, after_last, ends_streak, ends_interval}
use Rattle.ejector.specs.CountedState.{clock_of, is_out_after, start_of, opening_streak, streak_of, max_results, opening_good_results, opening_results, results_of, host_after, state_after}
use Rattle.ejector.specs.State.{State, hosts_of, host_of, is_out, out_count, at_moment, fresh_host}
use Rattle.ejector.specs.Trips.{may_eject, is_trip}
use Rattle.ejector.specs.Ejection.{nothing_by, deed_by, deeds, state}
use Rattle.ejector.specs.NextState.{host_with, with_deed, next}

-- OUT AND START

is_out_step : (O : State) (h : ℕ) (d : Deed) (p : List Deed)
    → is_out_after O h (d ∷ p) ≡ (if ejects h d then true else (if returns h d then false else is_out_after O h p))
is_out_step O h d p = elim (cases_Bool (ejects h d)) [
  | inl t ↦ rw t refl
  | inr f ↦ rw f (returned (returns h d) (list_any (ejects h) p || is_out O h) (list_any (returns h) (after_last (ejects h) p)))
]
  where
    returned : (r any later : Bool) → (any && not (r || later)) ≡ (if r then false else (any && not later))
    returned true true later = refl
    returned true false later = refl
    returned false any later = refl

start_step : (O : State) (h : ℕ) (d : Deed) (p : List Deed)
    → start_of O h (d ∷ p) ≡ (if ejects h d then clock_of O (d ∷ p) else start_of O h p)
start_step O h d p = elim (cases_Bool (ejects h d)) [ inl t ↦ rw t refl | inr f ↦ rw f refl ]

-- STREAKS

-- how many bad results count after the last deed that ends a streak, with those of the opening's streak
abbrev bads : State → ℕ → List Deed → ℕ
bads O h p = opening_streak O h p + count_by (λ (d : Deed). is_bad h d.mark) (after_last (ends_streak h) p)

bads_step : (O : State) (h : ℕ) (d : Deed) (p : List Deed)
    → bads O h (d ∷ p) ≡ (if ends_streak h d then 0 else ((if is_bad h d.mark then 1 else 0) + bads O h p))
bads_step O h d p = elim (cases_Bool (ends_streak h d)) [
  | inl t ↦ rw t refl
  | inr f ↦ rw f (omega (arith, sum_by-cons (λ (e : Deed). cond (is_bad h e.mark) 1 0) d (after_last (ends_streak h) p)))
]

-- a deed that ends no streak of a host leaves it out or in
out_same : (O : State) (h : ℕ) (d : Deed) (p : List Deed) → ends_streak h d ≡ false → is_out_after O h (d ∷ p) ≡ is_out_after O h p
out_same O h d p f =
    let good_or_trip = or_parts (is_good h d.mark || trips h d) (returns h d) f in
    let trip = or_parts (is_good h d.mark) (trips h d) good_or_trip.0 in
    let eject = or_parts (ejects h d) (is_among h d.kept) trip.1 in
    rw (is_out_step O h d p, eject.0, good_or_trip.1) refl

-- what the streak does, where off says that the host is out or the monitor is off
streak_one : (off bad : Bool) (n : ℕ) → (if off then 0 else ((if bad then 1 else 0) + n)) ≡ (if bad && not off then (if off then 0 else n) + 1 else (if off then 0 else n))
streak_one true true n = refl
streak_one true false n = refl
streak_one false true n = omega arith
streak_one false false n = omega arith

-- a choice of one number and the same
pub if-same : (b : Bool) (z : ℕ) → (if b then z else z) ≡ z
if-same true z = refl
if-same false z = refl

streak_step : (R : Rules) (O : State) (h : ℕ) (d : Deed) (p : List Deed) → streak_of R O h (d ∷ p)
    ≡ (if ends_streak h d then 0
    else (if is_bad h d.mark && not (is_out_after O h p || (R.settings.consecutive == 0)) then streak_of R O h p + 1 else streak_of R O h p))
streak_step R O h d p = elim (cases_Bool (ends_streak h d)) [
  | inl t ↦ rw (bads_step O h d p, t) (if-same (is_out_after O h (d ∷ p) || (R.settings.consecutive == 0)) 0)
  | inr f ↦ rw (bads_step O h d p, out_same O h d p f, f) (streak_one (is_out_after O h p || (R.settings.consecutive == 0)) (is_bad h d.mark) (bads O h p))
]

-- TALLIES

-- one item more behind those of which the first n count
counted_push : {X : Type 0} (n : ℕ) (ys : List X) (y : X) → take n (ys ++ y ∷ []) ≡ (if nat_lt (length (take n ys)) n then take n ys ++ y ∷ [] else take n ys)
counted_push n ys y = elim (cases_lt (length ys) n) [
  | inl l ↦
      (let all = take_all n ys (omega arith) in
      let more = take_all n (ys ++ y ∷ []) (omega (arith, length_push ys y)) in
      rw (more, all, lt-ltb (length ys) n l) refl)
  | inr g ↦
      (let long : length (take n ys) ≡ n = length-take-le n ys g in
      rw (take-append-le n ys (y ∷ []) g, long, le-ltb n n (omega arith)) refl)
]

-- some count already, and others may count beside them as long as all together are below the most
room_left : (first n most : ℕ) → nat_lt n (most - first) ≡ nat_lt (first + n) most
room_left first n most = elim (cases_lt (first + n) most) [
  | inl l ↦ lt-ltb n (most - first) (omega (arith, l)) ∙ sym (lt-ltb (first + n) most l)
  | inr g ↦ le-ltb n (most - first) (omega (arith, g)) ∙ sym (le-ltb (first + n) most g)
]

-- a host's results in the interval, in their order
abbrev interval : ℕ → List Deed → List Mark
interval h p = reverse (filter (is_result h) (map (λ (d : Deed). d.mark) (after_last ends_interval p)))

interval_yes : (h : ℕ) (d : Deed) (p : List Deed) → is_sweep d.mark ≡ false → is_result h d.mark ≡ true → interval h (d ∷ p) ≡ interval h p ++ d.mark ∷ []
interval_yes h d p s r = rw (s, r) (reverse-append (d.mark ∷ []) (filter (is_result h) (map (λ (e : Deed). e.mark) (after_last ends_interval p))))

interval_no : (h : ℕ) (d : Deed) (p : List Deed) → is_sweep d.mark ≡ false → is_result h d.mark ≡ false → interval h (d ∷ p) ≡ interval h p
interval_no h d p s r = rw (s, r) refl

interval_sweep : (h : ℕ) (d : Deed) (p : List Deed) → is_sweep d.mark ≡ true → interval h (d ∷ p) ≡ []
interval_sweep h d p s = rw s refl

-- the opening's tallies, as long as there is no sweep
results_stay : (O : State) (h : ℕ) (d : Deed) (p : List Deed) → is_sweep d.mark ≡ false → opening_results O h (d ∷ p) ≡ opening_results O h p
results_stay O h d p s = rw s refl

good_stays : (O : State) (h : ℕ) (d : Deed) (p : List Deed) → is_sweep d.mark ≡ false → opening_good_results O h (d ∷ p) ≡ opening_good_results O h p
good_stays O h d p s = rw s refl

-- the results that count, with one more
results_push : (O : State) (h : ℕ) (d : Deed) (p : List Deed) → is_sweep d.mark ≡ false → is_result h d.mark ≡ true → results_of O h (d ∷ p)
    ≡ (if nat_lt (opening_results O h p + length (results_of O h p)) max_results then results_of O h p ++ d.mark ∷ [] else results_of O h p)
results_push O h d p s r =
    let n = max_results - opening_results O h p in
    ap (λ (k : ℕ). take (max_results - k) (interval h (d ∷ p))) (results_stay O h d p s)
    ∙ ap (take n) (interval_yes h d p s r) ∙ counted_push n (interval h p) d.mark
    ∙ ap (λ (b : Bool). if b then results_of O h p ++ d.mark ∷ [] else results_of O h p) (room_left (opening_results O h p) (length (results_of O h p)) max_results)

results_same : (O : State) (h : ℕ) (d : Deed) (p : List Deed) → is_sweep d.mark ≡ false → is_result h d.mark ≡ false → results_of O h (d ∷ p) ≡ results_of O h p
results_same O h d p s r =
    ap (λ (k : ℕ). take (max_results - k) (interval h (d ∷ p))) (results_stay O h d p s)
    ∙ ap (take (max_results - opening_results O h p)) (interval_no h d p s r)

results_none : (O : State) (h : ℕ) (d : Deed) (p : List Deed) → is_sweep d.mark ≡ true → results_of O h (d ∷ p) ≡ []
results_none O h d p s = rw s refl

length_if : (first : ℕ) (b : Bool) (xs : List Mark) (m : Mark)
    → first + length (if b then xs ++ m ∷ [] else xs) ≡ (if b then first + length xs + 1 else first + length xs)
length_if first true xs m = omega (arith, length_push xs m)
length_if first false xs m = refl

-- all results that count: the opening's, and those of the marks
abbrev tally : State → ℕ → List Deed → ℕ
tally O h p = opening_results O h p + length (results_of O h p)

results_step : (O : State) (h : ℕ) (d : Deed) (p : List Deed) → tally O h (d ∷ p)
    ≡ (if is_sweep d.mark then 0 else (if is_result h d.mark && nat_lt (tally O h p) max_results then tally O h p + 1 else tally O h p))
results_step O h d p = elim (cases_Bool (is_sweep d.mark)) [
  | inl t ↦ rw (results_none O h d p t, t) refl
  | inr f ↦ elim (cases_Bool (is_result h d.mark)) [
    | inl r ↦ rw (results_push O h d p f r, results_stay O h d p f, f, r) (length_if (opening_results O h p) (nat_lt (tally O h p) max_results) (results_of O h p) d.mark)
    | inr n ↦ rw (results_same O h d p f n, results_stay O h d p f, f, n) refl
  ]
]

count_if : (first h : ℕ) (b : Bool) (xs : List Mark) (m : Mark) → first + count_by (is_good h) (if b then xs ++ m ∷ [] else xs)
    ≡ (if is_good h m && b then first + count_by (is_good h) xs + 1 else first + count_by (is_good h) xs)
count_if first h true xs m = elim (cases_Bool (is_good h m)) [
  | inl t ↦ rw (sum_by_push (λ (k : Mark). cond (is_good h k) 1 0) xs m, t) (omega arith)
  | inr f ↦ rw (sum_by_push (λ (k : Mark). cond (is_good h k) 1 0) xs m, f) (omega arith)
]
count_if first h false xs m = elim (cases_Bool (is_good h m)) [ inl t ↦ rw t refl | inr f ↦ rw f refl ]

-- all good results that count
abbrev good_tally : State → ℕ → List Deed → ℕ
good_tally O h p = opening_good_results O h p + count_by (is_good h) (results_of O h p)

good_step : (O : State) (h : ℕ) (d : Deed) (p : List Deed) → good_tally O h (d ∷ p)
    ≡ (if is_sweep d.mark then 0 else (if is_good h d.mark && nat_lt (tally O h p) max_results then good_tally O h p + 1 else good_tally O h p))
good_step O h d p = elim (cases_Bool (is_sweep d.mark)) [
  | inl t ↦ rw (results_none O h d p t, t) refl
  | inr f ↦ elim (cases_Bool (is_result h d.mark)) [
    | inl r ↦ rw (results_push O h d p f r, good_stays O h d p f, f) (count_if (opening_good_results O h p) h (nat_lt (tally O h p) max_results) (results_of O h p) d.mark)
    | inr n ↦ (let parts = or_parts (is_good h d.mark) (is_bad h d.mark) n in rw (results_same O h d p f n, good_stays O h d p f, f, parts.0) refl)
  ]
]

-- ONE HOST, AND ALL

host_step : (R : Rules) (O : State) (d : Deed) (p : List Deed) (h : ℕ) → host_after R O (d ∷ p) h ≡ host_with R (clock_of O (d ∷ p)) d h (host_after R O p h)
host_step R O d p h = rw (streak_step R O h d p, good_step O h d p, results_step O h d p, is_out_step O h d p, start_step O h d p) refl

-- a host's place in the state
pub host_at : (R : Rules) (f : ℕ → HostState) (h : ℕ) → h < R.hosts → get_or (map f (hosts_of R)) h fresh_host ≡ f h
host_at R f h l = get_or-map-range_with_len f 0 R.hosts h h fresh_host l (omega arith)

pub state_step : (R : Rules) (O : State) (d : Deed) (p : List Deed) → state_after R O (d ∷ p) ≡ with_deed R d (at_moment (moment d.mark) (state_after R O p))
state_step R O d p =
    let hosts = map-range_same (host_after R O (d ∷ p)) (λ h. host_with R (clock_of O (d ∷ p)) d h (host_of (state_after R O p) h)) 0 R.hosts
    (λ h _ l. host_step R O d p h ∙ ap (λ (s : HostState). host_with R (clock_of O (d ∷ p)) d h s) (sym (host_at R (host_after R O p) h (omega (arith, l))))) in
    ap (λ (hs : List HostState). record { clock = clock_of O (d ∷ p); hosts = hs }) hosts

deed_mark : (R : Rules) (x : State) (m : Mark) → (deed_by R x m).mark ≡ m
deed_mark R x (Good h t) = refl
deed_mark R x (Bad h t) = bad (is_trip R x h) (may_eject R (out_count x))
  where
    bad : (b c : Bool) → (if b then (if c then record (nothing_by (Bad h t)) { ejected = h ∷ [] } else record (nothing_by (Bad h t)) { kept = h ∷ [] }) else nothing_by (Bad h t)).mark ≡ Bad h t
    bad true true = refl
    bad true false = refl
    bad false c = refl
deed_mark R x (Sweep t) = refl

-- the state after one mark more
pub next_is : (R : Rules) (O : State) (m : Mark) (before : List Mark) → state R O (m ∷ before) ≡ next R m (state R O before)
next_is R O m before =
    let x = at_moment (moment m) (state R O before) in
    state_step R O (deed_by R x m) (deeds R O before) ∙ ap (λ (k : Mark). with_deed R (deed_by R x m) (at_moment (moment k) (state R O before))) (deed_mark R x m)
