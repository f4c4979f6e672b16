-- Where each worker has a pass, and passes keep within their places, each host has one pass.
use Rattle.std.proofs.Common.{◌≡◌, ◌∙◌, ◌==◌, ◌<◌, ◌≤◌, ◌+◌, ℕ, Bool, List, [], ◌∷◌, ap, arith, refl, sym, inl, inr, true, false, map, Some, None, eq-eqb, zero, suc}
use Rattle.std.specs.Prelude.{Option}
use Rattle.std.specs.List.{range_with_len}
use Rattle.std.proofs.lemmas.Bool.{cases_Bool, cases_lt, eqb-true}
use Rattle.ticket_gate.specs.Journal.{PassesBelow, steps_of}
use Rattle.ticket_gate.specs.PlainRule.{PlainRule}
use Rattle.proxy_core.specs.Recorded.{IsLegalJournal, Origin, journal_of, made_with}
use Rattle.proxy_history.specs.History.{History, Step}
use Rattle.proxy_history.specs.SeenSteps.{history_of_seen}
use Rattle.proxy_engines.specs.Turns.{own_steps}
use Rattle.proxy_notices.specs.declared.place.Place.{Place}
use Rattle.proxy_connections.specs.Places.{AreAssigned, HasNoHostStep, KeepsToPlace, OnePassTellsAll}
use Rattle.proxy_connections.proofs.AssignedLemmas.{assigned_hosts_have_one_pass}
use Rattle.proxy_connections.specs.Assigned.{Assigned, GateState, HaveAllPlaces, HostsHaveTheirWorkers, KeepWithin, KeepsWithin, place_with}

-- PLACES IN A ROW

-- the place of this index
abbrev at_index : ℕ → ℕ → Place
at_index workers index = record { index = index; workers = workers }

-- these have the places from one index on
abbrev AreFrom : ℕ → ℕ → ℕ → List Assigned → Type 0
AreFrom workers start n assigned = map (λ (a : Assigned). a.place) assigned ≡ map (at_index workers) (range_with_len start n)

-- what one of these has is a place from that index on
module _ (workers p : ℕ) where
  is_from : (start n : ℕ) (assigned : List Assigned) (place : Place) → AreFrom workers start n assigned → place_with p assigned ≡ Some place
      → (start ≤ place.index) × (place ≡ at_index workers place.index)
  is_from start n [] place are is = absurd cc
  is_from start zero (a ∷ rest) place are is = absurd cc
  is_from start (suc n) (a ∷ rest) place are is = elim (cases_Bool (a.pass == p)) [
    | inl mine ↦
        let first : a.place ≡ at_index workers start = cc in
        let same : a.place ≡ place = (let found : Some a.place ≡ Some place = rw mine at is in cc) in
        rw (← same, first) (omega arith, refl)
    | inr other ↦
        let later = is_from (start + 1) n rest place (cc) (rw other at is) in
        let behind = later.0 in
        (omega (arith, behind), later.1)
  ]

module _ (workers p q : ℕ) where
  -- two of these with one index are one
  one_each : (start n : ℕ) (assigned : List Assigned) (one two : Place) → AreFrom workers start n assigned
      → place_with p assigned ≡ Some one → place_with q assigned ≡ Some two → one.index ≡ two.index → p ≡ q
  one_each start n [] one two are is_one is_two same = absurd cc
  one_each start zero (a ∷ rest) one two are is_one is_two same = absurd cc
  one_each start (suc n) (a ∷ rest) one two are is_one is_two same =
      let first : a.place ≡ at_index workers start = cc in
      let rest_are : AreFrom workers (start + 1) n rest = cc in
      elim (cases_Bool (a.pass == p)) [
        | inl p_is ↦ elim (cases_Bool (a.pass == q)) [
          | inl q_is ↦ sym (eqb-true a.pass p p_is) ∙ eqb-true a.pass q q_is
          | inr q_other ↦
              let found : Some a.place ≡ Some one = rw p_is at is_one in
              let index : one.index ≡ start = cc in
              let behind = (is_from workers q (start + 1) n rest two rest_are (rw q_other at is_two)).0 in
              absurd (omega (arith, index, behind, same))
        ]
        | inr p_other ↦ elim (cases_Bool (a.pass == q)) [
          | inl q_is ↦
              let found : Some a.place ≡ Some two = rw q_is at is_two in
              let index : two.index ≡ start = cc in
              let behind = (is_from workers p (start + 1) n rest one rest_are (rw p_other at is_one)).0 in
              absurd (omega (arith, index, behind, same))
          | inr q_other ↦ one_each (start + 1) n rest one two rest_are (rw p_other at is_one) (rw q_other at is_two) same
        ]
      ]

-- NUMBERS THAT NOBODY HAS

-- a pass with a number that wasn't given out made no step
none_of : (n p : ℕ) (journal : List Step) → PassesBelow n journal → n ≤ p → steps_of p journal ≡ []
none_of n p [] below past = refl
none_of n p (step ∷ steps) below past = elim (cases_Bool (step.pass == p)) [
  | inl mine ↦ let is = eqb-true step.pass p mine in let under = below.0 in absurd (omega (arith, is, under, past))
  | inr other ↦ rw other (none_of n p steps below.1 past)
]

-- THE LAW

-- the index of a place
abbrev index_in : Option Place → Option ℕ
index_in None = None
index_in (Some place) = Some place.index

module _ (workers : ℕ) (assigned : List Assigned) (all : HaveAllPlaces workers assigned) (made : Origin) (s : GateState)
    (rule : PlainRule journal_of made_with IsLegalJournal made s) (keep : KeepWithin assigned rule.enrolled s) where
  -- each pass kept within its place
  keeps : (p : ℕ) → KeepsWithin (place_with p assigned) (own_steps p rule.log)
  keeps p = elim (cases_lt p rule.enrolled) [
    | inl given ↦
        let (j, k, there, number) = keep.shown p given in
        let same : own_steps p rule.log ≡ own_steps p k.seen = ap history_of_seen (rule.journals.own j p k there number) in
        rw same (keep.kept j p k there number)
    | inr past ↦
        let none : own_steps p rule.log ≡ [] = ap history_of_seen (none_of rule.enrolled p rule.log rule.journals.passes past) in
        rw none (within_none (place_with p assigned))
  ]
    where
      within_none : (place : Option Place) → KeepsWithin place []
      within_none None = λ h. refl
      within_none (Some place) = λ h other. refl

  are_assigned : AreAssigned workers (λ p. index_in (place_with p assigned)) rule.log
  are_assigned = record {
    kept = λ pass index is. kept_by pass index (place_with pass assigned) refl is (keeps pass);
    idle = λ pass is. idle_by pass (place_with pass assigned) is (keeps pass);
    apart = λ p q index is_p is_q. apart_by p q index (place_with p assigned) (place_with q assigned) refl refl is_p is_q;
  }
    where
      kept_by : (pass index : ℕ) (found : Option Place) → place_with pass assigned ≡ found → index_in found ≡ Some index
          → KeepsWithin found (own_steps pass rule.log) → KeepsToPlace (at_index workers index) (own_steps pass rule.log)
      kept_by pass index None is has kept = absurd cc
      kept_by pass index (Some place) is has kept =
          let at : place ≡ at_index workers place.index = (is_from workers pass 0 workers assigned place all is).1 in
          let index_is : place.index ≡ index = cc in
          rw (index_is) at (rw at at kept)

      idle_by : (pass : ℕ) (found : Option Place) → index_in found ≡ None → KeepsWithin found (own_steps pass rule.log)
          → HasNoHostStep (own_steps pass rule.log)
      idle_by pass None is kept = kept
      idle_by pass (Some place) is kept = absurd cc

      apart_by : (p q index : ℕ) (one two : Option Place) → place_with p assigned ≡ one → place_with q assigned ≡ two
          → index_in one ≡ Some index → index_in two ≡ Some index → p ≡ q
      apart_by p q index None two is_one is_two one_is two_is = absurd cc
      apart_by p q index (Some one) None is_one is_two one_is two_is = absurd cc
      apart_by p q index (Some one) (Some two) is_one is_two one_is two_is =
          one_each workers p q 0 workers assigned one two all is_one is_two (cc)

pub hosts_have_their_workers : HostsHaveTheirWorkers
hosts_have_their_workers workers assigned all made s rule keep =
    assigned_hosts_have_one_pass workers (λ p. index_in (place_with p assigned)) rule.log (are_assigned workers assigned all made s rule keep)
