-- What a mark does to one host.
use Rattle.std.proofs.Common.{◌≡◌, ℕ, ◌-◌, ◌*◌, ◌<◌, ◌≤◌, min, max, Bool, true, false, not, ◌&&◌, List, ◌∷◌, length, refl, sym, ap, ◌∙◌, subst, inl, inr, arith, nat_lt, ◌+◌, ◌==◌, Option, if◌then◌else◌}
use Rattle.std.proofs.lemmas.Bool.{cases_Bool, cases_eq, cases_lt, and_parts, leb-true, le-leb, false≢true}
use Rattle.std.proofs.lemmas.List.{get_or_past}
use Rattle.ejector.specs.declared.mark.Mark.{Mark}
use Rattle.ejector.specs.declared.mark.Mark.TheVariants.{Good, Bad, Sweep}
use Rattle.ejector.specs.declared.host.HostState.{HostState}
use Rattle.ejector.specs.declared.settings.Rules.{Rules}
use Rattle.ejector.specs.Marks.{moment}
use Rattle.ejector.specs.Deeds.{ejects, returns}
use Rattle.ejector.specs.State.{State, host_of, is_out, out_count, at_moment, fresh_host}
use Rattle.ejector.specs.Trips.{may_eject, is_trip}
use Rattle.ejector.specs.Sweeps.{comes_back, is_time_over, trips_by, trips_in_sweep, out_at_turn}
use Rattle.ejector.specs.Ejection.{state, deed_by, nothing_by}
use Rattle.ejector.specs.NextState.{host_with}
use Rattle.ejector.specs.Counting.{tripped_host, with_return, in_new_interval}
use Rattle.ejector.specs.Laws.{IsTimeOver, BringsBack, BackOnceTimeIsOver, OutUntilTimeIsOver, GoodEndsStreak, OthersChangeNothing, FindsTheSame, OthersMatterByLimitAndRates}
use Rattle.ejector.proofs.MemberLemmas.{among_filter}
use Rattle.ejector.proofs.DeedLemmas.{next_is, host_at}
use Rattle.ejector.proofs.OutLimitLemmas.{state_length}
use Rattle.ejector.proofs.CountingLemmas.{good_here, good_other, bad_deed, bad_other, sweep_at}

-- a host that isn't one of them
past : (R : Rules) (x : State) (h : ℕ) → length x.hosts ≡ R.hosts → R.hosts ≤ h → host_of x h ≡ fresh_host
past R x h e l = get_or_past x.hosts h fresh_host (omega arith)

-- one of them after a mark
pub host_next : (R : Rules) (O : State) (m : Mark) (before : List Mark) (h : ℕ) → h < R.hosts
    → host_of (state R O (m ∷ before)) h
    ≡ (let x = at_moment (moment m) (state R O before) in host_with R x.clock (deed_by R x m) h (host_of (state R O before) h))
host_next R O m before h l =
    let x = at_moment (moment m) (state R O before) in
    ap (λ (y : State). host_of y h) (next_is R O m before) ∙ host_at R (λ k. host_with R x.clock (deed_by R x m) k (host_of x k)) h l

-- GOOD RESULTS

pub good_ends : GoodEndsStreak
good_ends R O marks h t = elim (cases_lt h R.hosts) [
  | inl l ↦
      (let x = at_moment t (state R O marks) in
      ap (λ (s : HostState). s.streak) (host_next R O (Good h t) marks h l ∙ good_here R x.clock h t (host_of (state R O marks) h)))
  | inr g ↦ ap (λ (s : HostState). s.streak) (past R (state R O (Good h t ∷ marks)) h (state_length R O (Good h t ∷ marks)) g)
]

-- RESULTS OF OTHERS

outside : (R : Rules) (O : State) (m : Mark) (marks : List Mark) (h : ℕ) → R.hosts ≤ h → host_of (state R O (m ∷ marks)) h ≡ host_of (state R O marks) h
outside R O m marks h g = past R (state R O (m ∷ marks)) h (state_length R O (m ∷ marks)) g ∙ sym (past R (state R O marks) h (state_length R O marks) g)

pub others_nothing : OthersChangeNothing
others_nothing R O marks h k t other = elim (cases_lt h R.hosts) [
  | inl l ↦
      (let x = at_moment t (state R O marks) in
      let s = host_of (state R O marks) h in (
        host_next R O (Good k t) marks h l ∙ good_other R x.clock k t h s other,
        host_next R O (Bad k t) marks h l ∙ bad_other R x.clock k t h (is_trip R x k) (may_eject R (out_count x)) s other,
      ))
  | inr g ↦ (outside R O (Good k t) marks h g, outside R O (Bad k t) marks h g)
]

-- RETURNS

out_bad : (R : Rules) (c k t h : ℕ) (trips may : Bool) (s : HostState) → s.is_out ≡ true → (host_with R c (bad_deed k t trips may) h s).is_out ≡ true
out_bad R c k t h true true s e = elim (cases_Bool (k == h)) [ inl y ↦ rw y refl | inr n ↦ rw n e ]
out_bad R c k t h true false s e = e
out_bad R c k t h false may s e = e

swept_out : (ejected back out : Bool) → out ≡ true → (if ejected then true else (if back then false else out)) ≡ false → back ≡ true
swept_out true back out e f = absurd (false≢true (sym f))
swept_out false true out e f = refl
swept_out false false out e f = absurd (false≢true (sym f ∙ e))

out_until_at : (R : Rules) (O : State) (m : Mark) (marks : List Mark) (h : ℕ) → h < R.hosts → is_out (state R O marks) h ≡ true → is_out (state R O (m ∷ marks)) h ≡ false
    → (t : ℕ) × (m ≡ Sweep t)
    × (min (R.settings.base_ms * (host_of (state R O marks) h).multiplier) R.settings.max_ms ≤ max (state R O marks).clock t - (host_of (state R O marks) h).start)
out_until_at R O (Good k t) marks h l out back =
    let new = ap (λ (s : HostState). s.is_out) (host_next R O (Good k t) marks h l) in
    absurd (false≢true (sym back ∙ new ∙ out))
out_until_at R O (Bad k t) marks h l out back =
    let x = at_moment t (state R O marks) in
    let new = ap (λ (s : HostState). s.is_out) (host_next R O (Bad k t) marks h l) in
    absurd (false≢true (sym back ∙ new ∙ out_bad R x.clock k t h (is_trip R x k) (may_eject R (out_count x)) (host_of (state R O marks) h) out))
out_until_at R O (Sweep t) marks h l out back =
    let x = at_moment t (state R O marks) in
    let d = deed_by R x (Sweep t) in
    let new = ap (λ (s : HostState). s.is_out) (host_next R O (Sweep t) marks h l) in
    let returned = swept_out (ejects h d) (returns h d) (is_out (state R O marks) h) out (sym new ∙ back) in
    let over = and_parts (is_out x h) (is_time_over R x.clock (host_of x h)) (sym (among_filter (comes_back R x) h 0 R.hosts (omega arith) (omega (arith, l))) ∙ returned) in
    (t, refl, leb-true _ _ over.1)

pub out_until : OutUntilTimeIsOver
out_until R O m marks h out back = elim (cases_lt h R.hosts) [
  | inl l ↦ out_until_at R O m marks h l out back
  | inr g ↦ absurd (false≢true (sym back ∙ ap (λ (s : HostState). s.is_out) (outside R O m marks h g) ∙ out))
]

-- a host that a sweep returns is out afterwards exactly if the sweep ejects it
out_if_ejected : (ejected back out : Bool) → back ≡ true
    → (if ejected then true else (if back then false else out)) ≡ ejected
out_if_ejected true back out e = refl
out_if_ejected false true out e = refl
out_if_ejected false false out e = absurd (false≢true e)

back_once_at : (R : Rules) (O : State) (marks : List Mark) (h t : ℕ) → h < R.hosts → is_out (state R O marks) h ≡ true
    → IsTimeOver R (state R O marks) h t → BringsBack R O marks h t
back_once_at R O marks h t l out over =
    let x = at_moment t (state R O marks) in
    let d = deed_by R x (Sweep t) in
    let is_over : is_time_over R x.clock (host_of x h) ≡ true = le-leb _ _ over in
    let comes : comes_back R x h ≡ true = rw (out, is_over) refl in
    let back : returns h d ≡ true =
    among_filter (comes_back R x) h 0 R.hosts (omega arith) (omega (arith, l)) ∙ comes in
    let new = ap (λ (s : HostState). s.is_out) (host_next R O (Sweep t) marks h l) in
    record { returned = back; out_again = new ∙ out_if_ejected (ejects h d) (returns h d) (is_out (state R O marks) h) back }

pub back_once : BackOnceTimeIsOver
back_once R O marks h t out over = elim (cases_lt h R.hosts) [
  | inl l ↦ back_once_at R O marks h t l out over
  | inr g ↦
      let fresh = ap (λ (s : HostState). s.is_out) (past R (state R O marks) h (state_length R O marks) g) in
      absurd (false≢true (sym fresh ∙ out))
]

-- WHAT OTHERS ARE TO A HOST

trip_same : (R : Rules) (x y : State) (h : ℕ) → host_of x h ≡ host_of y h → is_trip R x h ≡ is_trip R y h
trip_same R x y h e = ap (λ (s : HostState). nat_lt h R.hosts && not s.is_out && nat_lt 0 R.settings.consecutive && (s.streak + 1 == R.settings.consecutive)) e

matter_at : (R : Rules) (m : Mark) (O P : State) (marks others : List Mark) (h : ℕ) → h < R.hosts
    → host_of (state R O marks) h ≡ host_of (state R P others) h → (state R O marks).clock ≡ (state R P others).clock
    → FindsTheSame R h m (state R O marks) (state R P others)
    → host_of (state R O (m ∷ marks)) h ≡ host_of (state R P (m ∷ others)) h
matter_at R (Good k t) O P marks others h l e c same =
    host_next R O (Good k t) marks h l
    ∙ ap (λ (n : ℕ). host_with R (max n t) (nothing_by (Good k t)) h (host_of (state R O marks) h)) c
    ∙ ap (λ (s : HostState). host_with R (max (state R P others).clock t) (nothing_by (Good k t)) h s) e
    ∙ sym (host_next R P (Good k t) others h l)
matter_at R (Bad k t) O P marks others h l e c same = elim (cases_eq h k) [
  | inl here ↦
      (let x = at_moment t (state R O marks) in
      let y = at_moment t (state R P others) in
      let this = host_next R O (Bad h t) marks h l in
      let that = host_next R P (Bad h t) others h l in
      let all =
      this
      ∙ ap (λ (b : Bool). host_with R x.clock (bad_deed h t b (may_eject R (out_count x))) h (host_of x h)) (trip_same R x y h e)
      ∙ ap (λ (b : Bool). host_with R x.clock (bad_deed h t (is_trip R y h) b) h (host_of x h)) same
      ∙ ap (λ (n : ℕ). host_with R (max n t) (bad_deed h t (is_trip R y h) (may_eject R (out_count y))) h (host_of x h)) c
      ∙ ap (λ (s : HostState). host_with R y.clock (bad_deed h t (is_trip R y h) (may_eject R (out_count y))) h s) e
      ∙ sym that in
      subst (λ (j : ℕ). host_of (state R O (Bad j t ∷ marks)) h ≡ host_of (state R P (Bad j t ∷ others)) h) here all)
  | inr other ↦
      (let one = others_nothing R O marks h k t other in
      let two = others_nothing R P others h k t other in
      one.1 ∙ e ∙ sym two.1)
]
matter_at R (Sweep t) O P marks others h l e c same =
    let x = at_moment t (state R O marks) in
    let y = at_moment t (state R P others) in
    host_next R O (Sweep t) marks h l ∙ sweep_at R x t h l
    ∙ ap (λ (rs : List (Option ℕ)). after (max (state R O marks).clock t) (trips_by R rs h) (may_eject R (out_at_turn R x h)) (host_of x h)) same.0
    ∙ ap (λ (b : Bool). after (max (state R O marks).clock t) (trips_in_sweep R y h) b (host_of x h)) same.1
    ∙ ap (λ (n : ℕ). after (max n t) (trips_in_sweep R y h) (may_eject R (out_at_turn R y h)) (host_of x h)) c
    ∙ ap (λ (s : HostState). after y.clock (trips_in_sweep R y h) (may_eject R (out_at_turn R y h)) s) e
    ∙ sym (host_next R P (Sweep t) others h l ∙ sweep_at R y t h l)
  where
    after : ℕ → Bool → Bool → HostState → HostState
    after now trips may s = in_new_interval (if trips then tripped_host R now may (with_return R now s) else with_return R now s)

pub others_matter : OthersMatterByLimitAndRates
others_matter R m O P marks others h e c same = elim (cases_lt h R.hosts) [
  | inl l ↦ matter_at R m O P marks others h l e c same
  | inr g ↦ outside R O m marks h g ∙ e ∙ sym (outside R P m others h g)
]
