-- Parts that are pushed, and the room for them.
use Rattle.std.proofs.Common.{◌≡◌, ◌≢◌, ℕ, zero, suc, ◌+◌, ◌<◌, ◌≤◌, ◌==◌, Bool, true, false, List, [], ◌∷◌, length, get_or, cond, refl, sym, ap, ◌∙◌, inl, inr, arith, if◌then◌else◌}
use Rattle.std.proofs.lemmas.Bool.{cases_Bool, eqb-true, eq-eqb, eqb-false}
use Rattle.std.proofs.lemmas.List.{length-append}
use Rattle.std.proofs.lemmas.List.Sums.{sum_by-cons}
use Rattle.list_lemmas.specs.Lists.{changed_at}
use Rattle.upstream_pipe.specs.declared.part.Part.{Part as PipePart}
use Rattle.proxy_core.specs.Places.{AreCounted, waits_at, one_at, count_at}
use Rattle.proxy_core.specs.Pipelines.{PipelineState, PipelineTable, HasRooms, with_waiting, with_pipeline, pipeline_at}
use Rattle.proxy_core.specs.declared.state.place.Place.{Place}
use Rattle.proxy_core.specs.declared.state.place.Place.TheVariants.{Waits, NoHost, Busy}
use Rattle.proxy_core.specs.declared.state.place.Placed.{Placed}
use Rattle.proxy_core.specs.Arrivals.{HaveRoom, MayWait, pushed_at}

-- COUNTS

pub count_at-more : (h : ℕ) (p : Placed) (ps : List Placed) → count_at h (p ∷ ps) ≡ one_at h p.place + count_at h ps
count_at-more h p ps = sum_by-cons (λ (q : Placed). cond (waits_at h q.place) 1 0) p ps ∙ ap (λ z. z + count_at h ps) (one (waits_at h p.place))
  where
    one : (b : Bool) → ◌≡◌ {A = ℕ} (cond b 1 0) (if b then 1 else 0)
    one true = refl
    one false = refl

pub one_at-its : (h : ℕ) → one_at h (Waits h) ≡ 1
one_at-its h = rw (eq-eqb h h refl) refl

-- ROOM IS MADE

-- one host more has its room, and the others have theirs
pub room_more : (counts : List ℕ) (i : ℕ) (before now : PipelineTable) → get_or counts i 0 ≤ get_or now.room i 0
    → ((h : ℕ) → h ≢ i → get_or now.room h 0 ≡ get_or before.room h 0) → HasRooms counts i before → HasRooms counts (i + 1) now
room_more counts i before now e others so_far h m = elim (cases_Bool (h == i)) [
  | inl t ↦ let q : h ≡ i = eqb-true h i t in rw q e
  | inr f ↦
      let n : h ≢ i = eqb-false h i f in
      rw (others h n) (so_far h (omega (arith, n, m)))
]

-- ROOM IS USED

-- one host has room for one less, and the others have theirs
pub room_used : (before now : PipelineTable) (i : ℕ) → get_or before.room i 0 ≤ get_or now.room i 0 + 1
    → ((h : ℕ) → h ≢ i → get_or now.room h 0 ≡ get_or before.room h 0) → (h : ℕ) → get_or before.room h 0 ≤ get_or now.room h 0 + one_at h (Waits i)
room_used before now i e others h = elim (cases_Bool (h == i)) [
  | inl t ↦
      let q : h ≡ i = eqb-true h i t in
      let one : one_at i (Waits i) ≡ 1 = one_at-its i in
      rw q (omega (arith, e, one))
  | inr f ↦ omega (arith, others h (eqb-false h i f))
]

may_wait_at : (place : Place) (p : Placed) (ps : List Placed) (table : PipelineTable) → p.place ≡ place → HaveRoom (p ∷ ps) table → MayWait place table
may_wait_at (Waits h) p ps table e r =
    let one : one_at h p.place ≡ 1 = rw e (one_at-its h) in
    let some : 0 < count_at h (p ∷ ps) = omega (arith, count_at-more h p ps, one) in
    let inside = r.within h some in
    (inside, omega (arith, r.room h inside, some), omega (arith, r.limit h some, some))
may_wait_at NoHost p ps table e r = tt
may_wait_at Busy p ps table e r = tt

-- the first of them may wait
pub may_wait : (p : Placed) (ps : List Placed) (table : PipelineTable) → HaveRoom (p ∷ ps) table → MayWait p.place table
may_wait p ps table r = may_wait_at p.place p ps table refl r

length-changed_at : {X : Type 0} (change : X → X) (h : ℕ) (xs : List X) → length (changed_at change h xs) ≡ length xs
length-changed_at change h [] = refl
length-changed_at change zero (x ∷ xs) = refl
length-changed_at change (suc h) (x ∷ xs) = ap suc (length-changed_at change h xs)

-- as many hosts as before
length-pushed_at : (place : Place) (part : PipePart) (states : List PipelineState) → length (pushed_at place part states) ≡ length states
length-pushed_at (Waits h) part states = length-changed_at (with_waiting part) h states
length-pushed_at NoHost part states = refl
length-pushed_at Busy part states = refl

waits_here : (h : ℕ) (part : PipePart) (states : List PipelineState)
    → length (pipeline_at h (with_pipeline (with_waiting part) h states)).waiting ≤ length (pipeline_at h states).waiting + 1
waits_here h part [] = omega arith
waits_here zero part (p ∷ ps) = omega (arith, length-append p.waiting (part ∷ []))
waits_here (suc h) part (p ∷ ps) = waits_here h part ps

waits_there : (h k : ℕ) (part : PipePart) (states : List PipelineState) → h ≢ k
    → length (pipeline_at h (with_pipeline (with_waiting part) k states)).waiting ≡ length (pipeline_at h states).waiting
waits_there h k part [] n = refl
waits_there zero zero part (p ∷ ps) n = absurd (n refl)
waits_there zero (suc k) part (p ∷ ps) n = refl
waits_there (suc h) zero part (p ∷ ps) n = refl
waits_there (suc h) (suc k) part (p ∷ ps) n = waits_there h k part ps (λ e. n (ap suc e))

-- one part more waits at its host, at most
waiting-pushed_at : (h : ℕ) (place : Place) (part : PipePart) (states : List PipelineState)
    → length (pipeline_at h (pushed_at place part states)).waiting ≤ length (pipeline_at h states).waiting + one_at h place
waiting-pushed_at h (Waits k) part states = elim (cases_Bool (k == h)) [
  | inl t ↦ let q : k ≡ h = eqb-true k h t in rw q (omega (arith, waits_here h part states, one_at-its h))
  | inr f ↦ omega (arith, waits_there h k part states (λ e. eqb-false k h f (sym e)))
]
waiting-pushed_at h NoHost part states = omega arith
waiting-pushed_at h Busy part states = omega arith

-- and the others have room once it does
pub room_for_rest : (p : Placed) (part : PipePart) (ps : List Placed) (before now : PipelineTable) → now.states ≡ pushed_at p.place part before.states
    → ((h : ℕ) → get_or before.room h 0 ≤ get_or now.room h 0 + one_at h p.place) → HaveRoom (p ∷ ps) before → HaveRoom ps now
room_for_rest p part ps before now pushed room r =
    let n : length now.states ≡ length before.states = ap length pushed ∙ length-pushed_at p.place part before.states in
    record {
      within = λ h l. omega (arith, n, r.within h (omega (arith, count_at-more h p ps, l)));
      room = λ h l. omega (arith, room h, count_at-more h p ps, r.room h (omega (arith, n, l)));
      limit = λ h l.
          let more : length (pipeline_at h now.states).waiting ≤ length (pipeline_at h before.states).waiting + one_at h p.place =
          rw pushed (waiting-pushed_at h p.place part before.states) in
          omega (arith, more, count_at-more h p ps, r.limit h (omega (arith, count_at-more h p ps, l)));
    }

-- where room was made for those that are counted there is room for all
pub have_room : (placed : List Placed) (counts : List ℕ) (before now : PipelineTable) → now.states ≡ before.states
    → AreCounted before.states counts placed → HasRooms counts (length now.states) now → HaveRoom placed now
have_room placed counts before now same a room =
    let n : length now.states ≡ length before.states = ap length same in
    record {
      within = λ h l. omega (arith, n, a.within h l);
      room = λ h l. omega (arith, room h l, a.counted h (omega (arith, n, l)));
      limit = λ h l. rw same (a.limit h l);
    }
