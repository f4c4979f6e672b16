-- Opening states, and what marks make of them.
use Rattle.std.proofs.Common.{◌≡◌, ℕ, zero, suc, ◌+◌, ◌-◌, ◌<◌, ◌≤◌, Bool, true, false, ◌&&◌, ◌||◌, ◌==◌, List, [], ◌∷◌, ◌++◌, length, count_by, replicate, refl, sym, ap, ◌∙◌, subst, inl, inr, arith, if◌then◌else◌}
use Rattle.std.proofs.lemmas.Bool.{or_cases, eqb-true}
use Rattle.std.proofs.lemmas.List.{length-replicate, take_all}
use Rattle.list_lemmas.proofs.CallerLemmas.{map-range_same, count_by-cons}
use Rattle.ejector.specs.declared.mark.Mark.{Mark}
use Rattle.ejector.specs.declared.host.HostState.{HostState}
use Rattle.ejector.specs.declared.settings.Rules.{Rules}
use Rattle.ejector.specs.Marks.{moment, is_good}
use Rattle.ejector.specs.State.{State, host_of, is_out, out_count, at_moment, fresh_host, fresh_state}
use Rattle.ejector.specs.CountedState.{is_out_after, streak_of, max_results, results_of, host_after}
use Rattle.ejector.specs.Opening.{IsOpening, IsSound}
use Rattle.ejector.specs.Trips.{most_out}
use Rattle.ejector.specs.Ejection.{deeds, state}
use Rattle.ejector.specs.NextState.{next}
use Rattle.ejector.specs.Laws.{OpeningComesFirst, OpeningsStay, StateGoesOn}
use Rattle.ejector.proofs.DeedLemmas.{next_is, host_at}
use Rattle.ejector.proofs.OutLimitLemmas.{hosts_are, state_length, next_out, next_length}
use Rattle.ejector.proofs.SoundCounterLemmas.{sound_mark, sound_fresh}

-- A STATE WITHOUT MARKS

same_host : (s : HostState) (h : ℕ) (out : Bool) (streak : ℕ) (marks : List Mark) → out ≡ s.is_out → streak ≡ s.streak → marks ≡ []
    → record s { is_out = out; streak = streak; good_results = s.good_results + count_by (is_good h) marks; results = s.results + length marks } ≡ s
same_host s h out streak marks e f g =
    let good : s.good_results + 0 ≡ s.good_results = omega arith in
    let results : s.results + 0 ≡ s.results = omega arith in
    rw (e, f, g, good, results) refl

first_out : (O : State) (h : ℕ) → is_out_after O h [] ≡ is_out O h
first_out O h = and_true (is_out O h)
  where
    and_true : (b : Bool) → (b && true) ≡ b
    and_true true = refl
    and_true false = refl

first_streak : (off : Bool) (n : ℕ) → (off ≡ true → n ≡ 0) → (if off then 0 else n + 0) ≡ n
first_streak true n none = sym (none refl)
first_streak false n none = omega arith

-- a host without deeds, where it has a streak only while it is in and the monitor is on
host_first : (R : Rules) (O : State) (h : ℕ) → ((is_out O h || (R.settings.consecutive == 0)) ≡ true → (host_of O h).streak ≡ 0)
    → host_after R O [] h ≡ host_of O h
host_first R O h none =
    let streak : streak_of R O h [] ≡ (host_of O h).streak =
    ap (λ (out : Bool). if out || (R.settings.consecutive == 0) then 0 else (host_of O h).streak + 0) (first_out O h)
    ∙ first_streak (is_out O h || (R.settings.consecutive == 0)) (host_of O h).streak none in
    same_host (host_of O h) h (is_out_after O h []) (streak_of R O h []) (results_of O h []) (first_out O h) streak
    (take_all (max_results - (host_of O h).results) [] (omega arith))

state_first : (R : Rules) (O : State) → length O.hosts ≡ R.hosts
    → ((h : ℕ) → h < R.hosts → (is_out O h || (R.settings.consecutive == 0)) ≡ true → (host_of O h).streak ≡ 0) → state R O [] ≡ O
state_first R O e none =
    ap (λ (hs : List HostState). record { clock = O.clock; hosts = hs })
    (map-range_same (host_after R O []) (host_of O) 0 R.hosts (λ h _ l. host_first R O h (none h (omega (arith, l)))) ∙ sym (hosts_are R O e))

off_streak : (R : Rules) (s : HostState) → IsSound R s → (s.is_out || (R.settings.consecutive == 0)) ≡ true → s.streak ≡ 0
off_streak R s w e = elim (or_cases s.is_out (R.settings.consecutive == 0) e) [
  | inl out ↦ w.none_out out
  | inr off ↦ omega (arith, eqb-true R.settings.consecutive 0 off, w.streak)
]

pub opening_first : OpeningComesFirst
opening_first R O w = state_first R O w.hosts (λ h l e. off_streak R (host_of O h) (w.sound h fresh_host (omega (arith, l, w.hosts))) e)

-- A STATE HANDED ON

handed_streak : (R : Rules) (O : State) (marks : List Mark) (h : ℕ) → h < R.hosts
    → (is_out (state R O marks) h || (R.settings.consecutive == 0)) ≡ true → (host_of (state R O marks) h).streak ≡ 0
handed_streak R O marks h l e =
    let here = host_at R (host_after R O (deeds R O marks)) h l in
    let off : (is_out_after O h (deeds R O marks) || (R.settings.consecutive == 0)) ≡ true =
    sym (ap (λ (s : HostState). s.is_out || (R.settings.consecutive == 0)) here) ∙ e in
    ap (λ (s : HostState). s.streak) here ∙ (rw off refl)

pub goes_on : StateGoesOn
goes_on R O [] before = state_first R (state R O before) (state_length R O before) (handed_streak R O before)
goes_on R O (m ∷ later) before =
    next_is R (state R O before) m later ∙ ap (next R m) (goes_on R O later before) ∙ sym (next_is R O m (later ++ before))

-- MARKS

opening_next : (R : Rules) (m : Mark) (x : State) → IsOpening R x → IsOpening R (next R m x)
opening_next R m x w = record {
  hosts = next_length R m x;
  few_out = next_out R m x w.hosts w.few_out;
  sound = sound_mark R (at_moment (moment m) x) m w.hosts w.sound;
}

pub opening_after : (R : Rules) (m : Mark) (x y : State) → IsOpening R x → next R m x ≡ y → IsOpening R y
opening_after R m x y w e = subst (IsOpening R) e (opening_next R m x w)

pub openings_stay : OpeningsStay
openings_stay R O [] w = subst (IsOpening R) (sym (opening_first R O w)) w
openings_stay R O (m ∷ marks) w =
    opening_after R m (state R O marks) (state R O (m ∷ marks)) (openings_stay R O marks w) (sym (next_is R O m marks))

pub state_out : (R : Rules) (O : State) (marks : List Mark) → IsOpening R O → out_count (state R O marks) ≤ most_out R
state_out R O marks w = let stays = openings_stay R O marks w in stays.few_out

-- THE FRESH STATE

none_out : (n : ℕ) → count_by (λ (s : HostState). s.is_out) (replicate n fresh_host) ≡ 0
none_out zero = refl
none_out (suc n) = rw (count_by-cons (λ (s : HostState). s.is_out) fresh_host (replicate n fresh_host), none_out n) refl

pub fresh_opening : (R : Rules) → IsOpening R (fresh_state R)
fresh_opening R = record {
  hosts = length-replicate R.hosts fresh_host;
  few_out = omega (arith, none_out R.hosts);
  sound = sound_fresh R;
}
