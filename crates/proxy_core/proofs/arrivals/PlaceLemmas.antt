-- The places that the code finds are those of the parts that are placed.
use Rattle.std.proofs.Common.{◌≡◌, ℕ, ◌+◌, ◌<◌, ◌≤◌, ◌==◌, Bool, true, false, nat_lt, List, [], ◌∷◌, ◌++◌, length, map, filter, get_or, replicate, Option, Some, None, refl, sym, ap, ◌∙◌, inl, inr, subst, arith, if◌then◌else◌}
use Rattle.std.specs.Prelude.{IfSome}
use Rattle.std.proofs.lemmas.Bool.{cases_Bool, eqb-true, eqb-false, eq-eqb, ne_eqb, and_right, ltb-true, ltb-false}
use Rattle.std.proofs.lemmas.List.{get_or-set_other, length-map, length-set, length-replicate, get_or-replicate, map-append}
use Rattle.std.proofs.lemmas.Grind.{get_or-set_at}
use Rattle.resp_core.specs.Tree.{Tree}
use Rattle.splitter.specs.declared.plans.PartPlan.{PartPlan}
use Rattle.proxy_history.specs.Setting.{Setting, max_waiting}
use Rattle.proxy_history.specs.History.{epoch}
use Rattle.proxy_history.specs.Part.{Part, Past, is_of}
use Rattle.proxy_history.specs.Waiting.{waiting_parts}
use Rattle.proxy_history.specs.Arrival.{parts_placed, placed_part, with_host, host_for, hostless, before_it, proxy_busy}
use Rattle.proxy_core.specs.Places.{place_by, placed_as, waits_at, one_at, count_at, next_place, counted_at, AreCounted}
use Rattle.proxy_core.specs.Pipelines.{PipelineState, pipeline_at}
use Rattle.proxy_core.specs.declared.state.place.Place.{Place}
use Rattle.proxy_core.specs.declared.state.place.Place.TheVariants.{Waits, NoHost, Busy}
use Rattle.proxy_core.specs.declared.state.place.Placed.{Placed}
use Rattle.proxy_core.proofs.parts.NewParts.{AreNow, now_both, part_now}
use Rattle.proxy_core.proofs.pipelines.HaveRoomLemmas.{count_at-more, one_at-its}

-- COUNTS

pub count_at-push : (h : ℕ) (ps : List Placed) (q : Placed) → count_at h (ps ++ q ∷ []) ≡ count_at h ps + one_at h q.place
count_at-push h [] q = omega (arith, count_at-more h q [])
count_at-push h (p ∷ ps) q = omega (arith, count_at-more h p (ps ++ q ∷ []), count_at-more h p ps, count_at-push h ps q)

one_at-other : (h k : ℕ) → (k ≡ h → ⊥) → one_at h (Waits k) ≡ 0
one_at-other h k n = rw (ne_eqb k h n) refl

one_at-le : (h : ℕ) (place : Place) → one_at h place ≤ 1
one_at-le h place = by (waits_at h place)
  where
    by : (b : Bool) → (if b then 1 else 0) ≤ 1
    by true = omega arith
    by false = omega arith

-- whom the next part is counted for
get_or-counted : (place : Place) (counts : List ℕ) (h : ℕ) → h < length counts → get_or (counted_at place counts) h 0 ≡ get_or counts h 0 + one_at h place
get_or-counted NoHost counts h l = omega arith
get_or-counted Busy counts h l = omega arith
get_or-counted (Waits k) counts h l = elim (cases_Bool (k == h)) [
  | inl t ↦
      let q : k ≡ h = eqb-true k h t in
      rw q (get_or-set_at counts h h (get_or counts h 0 + 1) 0 refl l ∙ rw (one_at-its h) refl)
  | inr f ↦
      let n = eqb-false k h f in
      get_or-set_other counts k h (get_or counts k 0 + 1) 0 (λ e. n (sym e)) ∙ omega (arith, one_at-other h k n)
]

length-counted : (place : Place) (counts : List ℕ) → length (counted_at place counts) ≡ length counts
length-counted NoHost counts = refl
length-counted Busy counts = refl
length-counted (Waits k) counts = length-set counts k (get_or counts k 0 + 1)

-- where one more waits there is a host, and room for it
next_by : (pipelines : List PipelineState) (counts : List ℕ) (k h n : ℕ) (b : Bool) → nat_lt (length (pipeline_at k pipelines).waiting + get_or counts k 0) max_waiting ≡ b
    → k < n → 0 < one_at h (if b then Waits k else Busy)
    → (h < n) × (length (pipeline_at h pipelines).waiting + get_or counts h 0 < max_waiting)
next_by pipelines counts k h n false e l some = absurd (omega (arith, some))
next_by pipelines counts k h n true e l some = elim (cases_Bool (k == h)) [
  | inl t ↦
      let q : k ≡ h = eqb-true k h t in
      subst (λ (z : ℕ). (z < n) × (length (pipeline_at z pipelines).waiting + get_or counts z 0 < max_waiting)) q (l, ltb-true _ max_waiting e)
  | inr f ↦ absurd (omega (arith, some, one_at-other h k (eqb-false k h f)))
]

next_has_room : (pipelines : List PipelineState) (counts : List ℕ) (host : Option ℕ) (n h : ℕ) → ((k : ℕ) → host ≡ Some k → k < n)
    → 0 < one_at h (next_place pipelines counts host) → (h < n) × (length (pipeline_at h pipelines).waiting + get_or counts h 0 < max_waiting)
next_has_room pipelines counts None n h inside some = absurd (omega (arith, some))
next_has_room pipelines counts (Some k) n h inside some = next_by pipelines counts k h n _ refl (inside k refl) some

-- the host of an owner is one of those that there are
pub within_hosts : (host : Option ℕ) (n : ℕ) → IfSome host (λ h. h < n) → (h : ℕ) → host ≡ Some h → h < n
within_hosts host n i h e = rw e at i

pub none_counted : (pipelines : List PipelineState) (n : ℕ) → length pipelines ≡ n → AreCounted pipelines (replicate n 0) []
none_counted pipelines n e = record {
  as_many = length-replicate n 0 ∙ sym e;
  counted = λ h l. get_or-replicate n h 0 0 (omega (arith, l, e));
  within = λ h l. absurd (omega (arith, l));
  limit = λ h l. absurd (omega (arith, l));
}

-- one part more is counted
pub counted_more : (pipelines : List PipelineState) (counts : List ℕ) (placed : List Placed) (host : Option ℕ) (q : Placed) → ((k : ℕ) → host ≡ Some k → k < length pipelines)
    → q.place ≡ next_place pipelines counts host → AreCounted pipelines counts placed
    → AreCounted pipelines (counted_at q.place counts) (placed ++ q ∷ [])
counted_more pipelines counts placed host q inside e a =
    let more : (h : ℕ) → count_at h (placed ++ q ∷ []) ≡ count_at h placed + one_at h q.place = λ h. count_at-push h placed q in
    let room : (h : ℕ) → 0 < one_at h q.place → (h < length pipelines) × (length (pipeline_at h pipelines).waiting + get_or counts h 0 < max_waiting) =
    λ h l. next_has_room pipelines counts host (length pipelines) h inside (rw e at l) in
    let none : (h : ℕ) → nat_lt 0 (one_at h q.place) ≡ false → one_at h q.place ≡ 0 = λ h f. omega (arith, ltb-false 0 (one_at h q.place) f) in
    record {
      as_many = length-counted q.place counts ∙ a.as_many;
      counted = λ h l. omega (arith, get_or-counted q.place counts h (omega (arith, l, a.as_many)), a.counted h l, more h);
      within = λ h l. elim (cases_Bool (nat_lt 0 (one_at h q.place))) [
        | inl t ↦ (room h (ltb-true 0 (one_at h q.place) t)).0
        | inr f ↦ a.within h (omega (arith, l, more h, none h f))
      ];
      limit = λ h l. elim (cases_Bool (nat_lt 0 (one_at h q.place))) [
        | inl t ↦
            let r = room h (ltb-true 0 (one_at h q.place) t) in
            omega (arith, r.1, more h, a.counted h r.0, one_at-le h q.place)
        | inr f ↦ omega (arith, more h, none h f, a.limit h (omega (arith, l, more h, none h f)))
      ];
    }

-- PARTS AND PLACES

waits_as : (x : Past) (h : ℕ) (p : Part) (host : Option ℕ) (local : Option Tree) → p.host ≡ host → p.local ≡ local → ((k : ℕ) → host ≡ Some k → p.epoch ≡ epoch k x.steps)
    → is_of h (epoch h x.steps) p ≡ waits_at h (place_by host local)
waits_as x h p None local e f now = rw e refl
waits_as x h p (Some k) (Some v) e f now = rw (e, f) (and_right _ false refl)
waits_as x h p (Some k) None e f now = elim (cases_Bool (k == h)) [
  | inl t ↦
      let q : k ≡ h = eqb-true k h t in
      let g : (p.epoch == epoch h x.steps) ≡ true = eq-eqb p.epoch (epoch h x.steps) (now k refl ∙ ap (λ j. epoch j x.steps) q) in
      rw (e, f, t, g) refl
  | inr n ↦ rw (e, f, n) refl
]

-- as many parts wait at a host as places say
pub count_at-parts : (x : Past) (h : ℕ) (ps : List Part) → AreNow x.steps ps → length (filter (is_of h (epoch h x.steps)) ps) ≡ count_at h (map placed_as ps)
count_at-parts x h [] a = refl
count_at-parts x h (p ∷ ps) a =
    let same = waits_as x h p p.host p.local refl refl a.0 in
    elim (cases_Bool (is_of h (epoch h x.steps) p)) [
      | inl t ↦
          let w : one_at h (placed_as p).place ≡ 1 = rw (sym same ∙ t) refl in
          rw t (omega (arith, count_at-parts x h ps a.1, count_at-more h (placed_as p) (map placed_as ps), w))
      | inr f ↦
          let w : one_at h (placed_as p).place ≡ 0 = rw (sym same ∙ f) refl in
          rw f (omega (arith, count_at-parts x h ps a.1, count_at-more h (placed_as p) (map placed_as ps), w))
    ]

-- What decides the place of a key's part is known: the waiting parts, and the counts of those that were placed.
pub record Decides (x : Past) (pipelines : List PipelineState) (counts : List ℕ) (front : List Part) (h : ℕ) : Type 0 where
  pub waiting_are : length (pipeline_at h pipelines).waiting ≡ length (waiting_parts h x)
  pub counted : get_or counts h 0 ≡ length (filter (is_of h (epoch h x.steps)) front)

busy_or_waits : (b : Bool) (h : ℕ) → place_by (Some h) (if b then None else Some proxy_busy) ≡ (if b then Waits h else Busy)
busy_or_waits true h = refl
busy_or_waits false h = refl

pub placed_next : (x : Past) (pipelines : List PipelineState) (counts : List ℕ) (front : List Part) (host : Option ℕ) (p : Part) → p.host ≡ None
    → place_by p.host p.local ≡ NoHost → ((h : ℕ) → host ≡ Some h → Decides x pipelines counts front h)
    → placed_as (with_host x front host p) ≡ record { number = p.number; place = next_place pipelines counts host; text = p.text }
placed_next x pipelines counts front None p n e d = ap (λ z. record { number = p.number; place = z; text = p.text }) e
placed_next x pipelines counts front (Some h) p n e d =
    let a = d h refl in
    let same : before_it h x front ≡ length (pipeline_at h pipelines).waiting + get_or counts h 0 = omega (arith, a.waiting_are, a.counted) in
    ap (λ z. record { number = p.number; place = place_by (Some h) (if nat_lt z max_waiting then None else Some proxy_busy); text = p.text }) same
    ∙ ap (λ z. record { number = p.number; place = z; text = p.text }) (busy_or_waits _ h)

-- THE PARTS OF A COMMAND

-- These places are those of the parts so far, and with the rest of the plans come those of all.
pub record AreSoFar (S : Setting) (x : Past) (conn command : ℕ) (list : List PartPlan) (placed : List Placed) (rest : List PartPlan) : Type 0 where
  pub front : List Part
  pub placed_are : placed ≡ map placed_as front
  pub are_now : AreNow x.steps front
  pub whole : parts_placed S x conn command front rest ≡ parts_placed S x conn command [] list

pub one_more : (S : Setting) (x : Past) (conn command : ℕ) (list : List PartPlan) (placed : List Placed) (p : PartPlan) (rest : List PartPlan)
    (pipelines : List PipelineState) (counts : List ℕ) (host : Option ℕ)
    → host_for S x p.key ≡ host → ((h : ℕ) → host ≡ Some h → h < length pipelines)
    → ((h : ℕ) → h < length pipelines → length (pipeline_at h pipelines).waiting ≡ length (waiting_parts h x))
    → AreCounted pipelines counts placed → AreSoFar S x conn command list placed (p ∷ rest)
    → AreSoFar S x conn command list (placed ++ (record { number = length placed; place = next_place pipelines counts host; text = p.text }) ∷ []) rest
one_more S x conn command list placed p rest pipelines counts host e inside known counted a =
    let front = a.front in
    let bare = hostless conn command (length front) p in
    let so_many : length placed ≡ length front = ap length a.placed_are ∙ length-map front placed_as in
    let decides : (h : ℕ) → host ≡ Some h → Decides x pipelines counts front h = λ h q. record {
      waiting_are = known h (inside h q);
      counted = counted.counted h (inside h q) ∙ ap (count_at h) a.placed_are ∙ sym (count_at-parts x h front a.are_now);
    } in
    let new : placed_as (placed_part S x conn command front p) ≡ record { number = length placed; place = next_place pipelines counts host; text = p.text } =
    ap (λ z. placed_as (with_host x front z bare)) e ∙ placed_next x pipelines counts front host bare refl refl decides
    ∙ ap (λ z. record { number = z; place = next_place pipelines counts host; text = p.text }) (sym so_many) in
    record {
      front = front ++ placed_part S x conn command front p ∷ [];
      placed_are = ap (λ z. z ++ (record { number = length placed; place = next_place pipelines counts host; text = p.text }) ∷ []) a.placed_are
          ∙ ap (λ z. map placed_as front ++ z ∷ []) (sym new) ∙ sym (map-append placed_as front (placed_part S x conn command front p ∷ []));
      are_now = now_both x.steps front (placed_part S x conn command front p) a.are_now (part_now x front (host_for S x p.key) bare refl);
      whole = a.whole;
    }

-- where no plan is left they are those of all
pub all_placed : (S : Setting) (x : Past) (conn command : ℕ) (list : List PartPlan) (placed : List Placed) (rest : List PartPlan) → length rest ≡ 0
    → AreSoFar S x conn command list placed rest → placed ≡ map placed_as (parts_placed S x conn command [] list)
all_placed S x conn command list placed [] n a = a.placed_are ∙ ap (map placed_as) a.whole
all_placed S x conn command list placed (p ∷ rest) n a = absurd (omega (arith, n))

pub none_so_far : (S : Setting) (x : Past) (conn command : ℕ) (list : List PartPlan) (placed : List Placed) (rest : List PartPlan) → placed ≡ [] → rest ≡ list
    → AreSoFar S x conn command list placed rest
none_so_far S x conn command list placed rest e f = record { front = []; placed_are = e; are_now = tt; whole = ap (parts_placed S x conn command []) f }
