-- Counters stay sound.
use Rattle.std.proofs.Common.{◌≡◌, ℕ, ◌+◌, ◌-◌, ◌<◌, ◌≤◌, Bool, true, false, not, ◌||◌, ◌&&◌, ◌==◌, nat_lt, List, All, length, map, replicate, get_or, refl, sym, ◌∙◌, subst, inl, inr, arith, if◌then◌else◌}
use Rattle.std.specs.List.{range_with_len}
use Rattle.std.proofs.lemmas.Bool.{cases_Bool, cases_lt, lt-ltb, ltb-true, cases_eq, eq-eqb, ne_eqb, false≢true}
use Rattle.std.proofs.lemmas.List.{get_or-map, length-map, get_or-replicate, length-replicate}
use Rattle.std.proofs.lemmas.List.FromFn.{length-map-range_with_len, get_or-map-range_with_len}
use Rattle.std.proofs.lemmas.List.Elements.{All-set}
use Rattle.list_lemmas.proofs.CallerLemmas.{map-range_same}
use Rattle.ejector.specs.declared.mark.Mark.{Mark}
use Rattle.ejector.specs.declared.mark.Mark.TheVariants.{Good, Bad, Sweep}
use Rattle.ejector.specs.declared.host.HostState.{HostState}
use Rattle.ejector.specs.declared.settings.Rules.{Rules}
use Rattle.ejector.specs.CountedState.{max_results}
use Rattle.ejector.specs.Opening.{IsSound}
use Rattle.ejector.specs.State.{State, host_of, out_count, fresh_host}
use Rattle.ejector.specs.Trips.{may_eject, is_trip}
use Rattle.ejector.specs.Sweeps.{is_time_over}
use Rattle.ejector.specs.Ejection.{nothing_by}
use Rattle.ejector.specs.NextState.{host_with, with_mark}
use Rattle.ejector.specs.Counting.{host_with_result, with_good, with_bad, tripped_host, trips_then, outs, with_return, in_new_interval, at_turn, tripping_of, swept_hosts}
use Rattle.ejector.proofs.OutLimitLemmas.{hosts_are}
use Rattle.ejector.proofs.CountingLemmas.{good_link, good_other, bad_deed, bad_link, bad_other, sweep_link}

module _ (R : Rules) where
  -- RESULTS

  sound_counted : (ok : Bool) (s : HostState) → IsSound R s → IsSound R (host_with_result ok s)
  sound_counted ok s w = elim (cases_Bool (nat_lt s.results max_results)) [
    | inl y ↦ rw y (record {
      share = one ok;
      few_results = omega (arith, ltb-true s.results max_results y);
      streak = w.streak;
      none_out = w.none_out;
      multiplier = w.multiplier;
    })
    | inr n ↦ rw n w
  ]
    where
      one : (ok : Bool) → (if ok then s.good_results + 1 else s.good_results) ≤ s.results + 1
      one true = omega (arith, w.share)
      one false = omega (arith, w.share)

  sound_ended : (s : HostState) → IsSound R s → IsSound R (record s { streak = 0 })
  sound_ended s w = record {
    share = w.share;
    few_results = w.few_results;
    streak = omega arith;
    none_out = λ _. refl;
    multiplier = w.multiplier;
  }

  sound_good : (s : HostState) → IsSound R s → IsSound R (with_good s)
  sound_good s w = sound_ended (host_with_result true s) (sound_counted true s w)

  sound_tripped : (now : ℕ) (may : Bool) (s : HostState) → IsSound R s → IsSound R (tripped_host R now may s)
  sound_tripped now true s w = record {
    share = w.share;
    few_results = w.few_results;
    streak = omega arith;
    none_out = λ _. refl;
    multiplier = omega arith;
  }
  sound_tripped now false s w = sound_ended s w

  -- a streak that isn't a trip yet
  more : (out : Bool) (c n : ℕ) → n ≤ c - 1 → (not out && nat_lt 0 c && (n + 1 == c)) ≡ false → (if out || (c == 0) then n else n + 1) ≤ c - 1
  more true c n l e = l
  more false c n l e = elim (cases_eq c 0) [
    | inl none ↦ rw (eq-eqb c 0 none) l
    | inr some ↦ elim (cases_eq (n + 1) c) [
      | inl trip ↦ absurd (false≢true (sym e ∙ trips trip some))
      | inr other ↦ rw (ne_eqb c 0 some) (omega arith)
    ]
  ]
    where
      trips : n + 1 ≡ c → (c ≡ 0 → ⊥) → (nat_lt 0 c && (n + 1 == c)) ≡ true
      trips trip some = rw (lt-ltb 0 c (omega arith), eq-eqb (n + 1) c trip) refl

  -- a bad result that counts for no streak of a host that is out
  still_none : (out : Bool) (c n : ℕ) → (out ≡ true → n ≡ 0) → out ≡ true → (if out || (c == 0) then n else n + 1) ≡ 0
  still_none true c n none e = none e
  still_none false c n none e = absurd (false≢true e)

  counted_out : (ok : Bool) (s : HostState) → (host_with_result ok s).is_out ≡ s.is_out
  counted_out ok s = elim (cases_Bool (nat_lt s.results max_results)) [ inl y ↦ rw y refl | inr n ↦ rw n refl ]

  sound_bad : (s : HostState) → IsSound R s → trips_then R s ≡ false → IsSound R (with_bad R s)
  sound_bad s w e = let c = sound_counted false s w in record {
    share = c.share;
    few_results = c.few_results;
    streak = more s.is_out R.settings.consecutive s.streak w.streak e;
    none_out = λ out. still_none s.is_out R.settings.consecutive s.streak w.none_out (sym (counted_out false s) ∙ out);
    multiplier = c.multiplier;
  }

  sound_bad_result : (now : ℕ) (may : Bool) (s : HostState) → IsSound R s → IsSound R (if trips_then R s then tripped_host R now may (host_with_result false s) else with_bad R s)
  sound_bad_result now may s w = elim (cases_Bool (trips_then R s)) [
    | inl t ↦ rw t (sound_tripped now may (host_with_result false s) (sound_counted false s w))
    | inr f ↦ rw f (sound_bad s w f)
  ]

  -- SWEEPS

  sound_return : (out over : Bool) (s : HostState) → IsSound R s
      → IsSound R (if out then (if over then record s { is_out = false; streak = 0 } else s) else record s { multiplier = s.multiplier - 1 })
  sound_return true true s w = record {
    share = w.share;
    few_results = w.few_results;
    streak = omega arith;
    none_out = λ _. refl;
    multiplier = w.multiplier;
  }
  sound_return true false s w = w
  sound_return false over s w = record {
    share = w.share;
    few_results = w.few_results;
    streak = w.streak;
    none_out = w.none_out;
    multiplier = omega (arith, w.multiplier);
  }

  sound_turn : (now : ℕ) (trips may : Bool) (s : HostState) → IsSound R s → IsSound R (if trips then tripped_host R now may s else s)
  sound_turn now true may s w = sound_tripped now may s w
  sound_turn now false may s w = w

  sound_new : (s : HostState) → IsSound R s → IsSound R (in_new_interval s)
  sound_new s w = record {
    share = omega arith;
    few_results = omega arith;
    streak = w.streak;
    none_out = w.none_out;
    multiplier = w.multiplier;
  }

  sound_swept : (now : ℕ) (xs : List HostState) → length xs ≡ R.hosts → All (IsSound R) xs → All (IsSound R) (swept_hosts R now xs)
  sound_swept now xs e all k d l =
      let back = map (with_return R now) xs in
      let turn = at_turn R now (tripping_of R back) (outs back) back in
      let few : k < length (map turn (range_with_len 0 R.hosts)) = omega (arith, l, length-map (map turn (range_with_len 0 R.hosts)) in_new_interval) in
      let within : k < R.hosts = omega (arith, few, length-map-range_with_len turn 0 R.hosts) in
      let place = get_or-map in_new_interval (map turn (range_with_len 0 R.hosts)) k fresh_host d few in
      let turned = get_or-map-range_with_len turn 0 R.hosts k k fresh_host within (omega arith) in
      let returned = get_or-map (with_return R now) xs k fresh_host fresh_host (omega arith) in
      let s = get_or xs k fresh_host in
      let old = all k fresh_host (omega arith) in
      rw (place, turned, returned)
      (sound_new _ (sound_turn now (tripping_of R back k) _ (with_return R now s) (sound_return s.is_out (is_time_over R now s) s old)))

  -- MARKS

  -- a mark of a host that isn't one of them changes nothing
  good_outside : (x : State) (h t : ℕ) → length x.hosts ≡ R.hosts → R.hosts ≤ h → (with_mark R (Good h t) x).hosts ≡ x.hosts
  good_outside x h t e g =
      map-range_same (λ k. host_with R x.clock (nothing_by (Good h t)) k (host_of x k)) (host_of x) 0 R.hosts
      (λ k _ l. good_other R x.clock h t k (host_of x k) (λ same. absurd (omega (arith, l, g, same)))) ∙ sym (hosts_are R x e)

  bad_outside : (x : State) (h t : ℕ) → length x.hosts ≡ R.hosts → R.hosts ≤ h → (with_mark R (Bad h t) x).hosts ≡ x.hosts
  bad_outside x h t e g =
      let d = bad_deed h t (is_trip R x h) (may_eject R (out_count x)) in
      map-range_same (λ k. host_with R x.clock d k (host_of x k)) (host_of x) 0 R.hosts
      (λ k _ l. bad_other R x.clock h t k (is_trip R x h) (may_eject R (out_count x)) (host_of x k) (λ same. absurd (omega (arith, l, g, same)))) ∙ sym (hosts_are R x e)

  pub sound_mark : (x : State) (m : Mark) → length x.hosts ≡ R.hosts → All (IsSound R) x.hosts → All (IsSound R) (with_mark R m x).hosts
  sound_mark x (Good h t) e all = elim (cases_lt h R.hosts) [
    | inl l ↦ rw (good_link R x h t e l) (All-set (IsSound R) x.hosts h (with_good (host_of x h)) (sound_good (host_of x h) (all h fresh_host (omega arith))) all)
    | inr g ↦ subst (All (IsSound R)) (sym (good_outside x h t e g)) all
  ]
  sound_mark x (Bad h t) e all = elim (cases_lt h R.hosts) [
    | inl l ↦
        rw (bad_link R x h t e l)
        (All-set (IsSound R) x.hosts h _ (sound_bad_result x.clock (may_eject R (outs x.hosts)) (host_of x h) (all h fresh_host (omega arith))) all)
    | inr g ↦ subst (All (IsSound R)) (sym (bad_outside x h t e g)) all
  ]
  sound_mark x (Sweep t) e all = rw (sweep_link R x t e) (sound_swept x.clock x.hosts e all)

  pub sound_fresh : All (IsSound R) (replicate R.hosts fresh_host)
  sound_fresh k d l =
      rw (get_or-replicate R.hosts k fresh_host d (omega (arith, l, length-replicate R.hosts fresh_host)))
      (record { share = omega arith; few_results = omega arith; streak = omega arith; none_out = λ _. refl; multiplier = omega arith })
