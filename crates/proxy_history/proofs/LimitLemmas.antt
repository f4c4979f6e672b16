-- What stands at one time is within its limit.
use Rattle.std.proofs.Common.{◌≡◌, ℕ, zero, suc, ◌+◌, ◌-◌, ◌<◌, ◌≤◌, Bool, true, false, not, ◌==◌, ◌&&◌, ◌||◌, nat_lt, nat_le, is_none, List, [], ◌∷◌, ◌++◌, length, filter, Option, Some, None, refl, sym, ap, ◌∙◌, inl, inr, arith, if◌then◌else◌}
use Rattle.std.specs.List.{list_any}
use Rattle.std.proofs.lemmas.Bool.{and_parts, cases_Bool, cases_eq, or_parts, not-true, not-false, eqb-true, eq-eqb, ne_eqb, ltb-true, leb-true, leb-false}
use Rattle.std.proofs.lemmas.List.{length-append}
use Rattle.std.proofs.lemmas.List.Elements.{filter-append}
use Rattle.std.proofs.lemmas.List.Folds.{list_any-append}
use Rattle.splitter.specs.Plan.{Plan, here, leave, parts}
use Rattle.splitter.specs.declared.plans.PartPlan.{PartPlan}
use Rattle.proxy_history.specs.Setting.{Setting, max_connections, max_unwritten, max_waiting, max_steps, max_payload}
use Rattle.proxy_history.specs.History.{History, Step, times, openings, accepted_count, handed_count, epoch, is_opening, is_arrival, is_handing, is_closing, is_any_closing, is_fault, is_closed, is_open, plan_for}
use Rattle.proxy_history.specs.Part.{Past, Part, is_of, is_host, is_same}
use Rattle.proxy_history.specs.Past.{past}
use Rattle.proxy_history.specs.Waiting.{waiting_parts, waits, sent_by}
use Rattle.proxy_history.specs.Arrival.{proxy_busy, before_it, parts_by, placed_by, parts_placed, placed_part, with_host, host_for, hostless}
use Rattle.proxy_history.specs.Cause.{own_cause, causes, commands_left, is_ready}
use Rattle.proxy_history.specs.Payload.{payload, payload_of}
use Rattle.proxy_history.specs.Legal.{IsLegal}
use Rattle.proxy_history.specs.LimitLaws.{IsWithinLimits}
use Rattle.proxy_history.specs.declared.event.Event.{Event}
use Rattle.proxy_history.specs.declared.event.Event.TheVariants.{Opened, Arrived, Handed, Closed}
use Rattle.proxy_history.proofs.causes.NoCauseLemmas.{are_false}
use Rattle.proxy_history.proofs.parts.FilterLemmas.{waits_parts}
use Rattle.proxy_history.proofs.outcomes.ValueLemmas.{is_of_parts}
use Rattle.proxy_history.proofs.sending.WaitingStepLemmas.{none_of_next}
use Rattle.proxy_history.proofs.parts.EpochLemmas.{of_past_both, are_of_past, new_of_past}

-- CONNECTIONS

-- how many numbers below n pass a test
abbrev count_below : (ℕ → Bool) → ℕ → ℕ
count_below f zero = 0
count_below f (suc n) = if f n then count_below f n + 1 else count_below f n

count_below-at : (f : ℕ → Bool) (n : ℕ) → f n ≡ true → count_below f (suc n) ≡ count_below f n + 1
count_below-at f n e = rw e refl

count_below-past : (f : ℕ → Bool) (n : ℕ) → f n ≡ false → count_below f (suc n) ≡ count_below f n
count_below-past f n e = rw e refl

no_more_than : (f : ℕ → Bool) (n : ℕ) → count_below f n ≤ n
no_more_than f zero = omega arith
no_more_than f (suc n) = elim (cases_Bool (f n)) [
  | inl t ↦ omega (arith, count_below-at f n t, no_more_than f n)
  | inr e ↦ omega (arith, count_below-past f n e, no_more_than f n)
]

grows : (f : ℕ → Bool) (n : ℕ) → count_below f n ≤ count_below f (suc n)
grows f n = elim (cases_Bool (f n)) [ inl t ↦ omega (arith, count_below-at f n t) | inr e ↦ omega (arith, count_below-past f n e) ]

abbrev with_one : ℕ → (ℕ → Bool) → ℕ → Bool
with_one c f k = (c == k) || f k

with_other : (c : ℕ) (f : ℕ → Bool) (k : ℕ) → (c ≡ k → ⊥) → with_one c f k ≡ f k
with_other c f k n = rw (ne_eqb c k n) refl

same_below : (f : ℕ → Bool) (c n : ℕ) → n ≤ c → count_below (with_one c f) n ≡ count_below f n
same_below f c zero l = refl
same_below f c (suc n) l = rw (with_other c f n (λ e. omega (arith, e, l)), same_below f c n (omega (arith, l))) refl

one_more_below : (f : ℕ → Bool) (c n : ℕ) → c < n → f c ≡ false
    → count_below (with_one c f) n ≡ count_below f n + 1
one_more_below f c zero l e = absurd (omega (arith, l))
one_more_below f c (suc n) l e = elim (cases_eq c n) [
  | inl is ↦
      let now : with_one c f n ≡ true = rw (eq-eqb c n is) refl in
      let not_before : f n ≡ false = ap f (sym is) ∙ e in
      omega (arith, count_below-at (with_one c f) n now, count_below-past f n not_before, same_below f c n (omega (arith, is)))
  | inr other ↦
      let more = one_more_below f c n (omega (arith, l, other)) e in
      elim (cases_Bool (f n)) [
        | inl t ↦ omega (arith, count_below-at (with_one c f) n (with_other c f n other ∙ t), count_below-at f n t, more)
        | inr g ↦ omega (arith, count_below-past (with_one c f) n (with_other c f n other ∙ g), count_below-past f n g, more)
      ]
]

-- those that are closed
abbrev closed_below : History → ℕ → ℕ
closed_below H n = count_below (λ c. is_closed c H) n

suc_is : (n : ℕ) → n + 1 ≡ suc n
suc_is n = omega arith

-- an open connection has a number below those opened, and isn't closed
open_parts : (x : Past) (c : ℕ) → not (is_open c x.steps) ≡ false
    → (c < openings x.steps) × (is_closed c x.steps ≡ false)
open_parts x c n =
    let b =
    and_parts (nat_lt c (openings x.steps)) (not (is_closed c x.steps)) (not-false (is_open c x.steps) n) in
    (ltb-true c (openings x.steps) b.0, not-true (is_closed c x.steps) b.1)

closings_by : (S : Setting) (x : Past) (event : Event) → own_cause S x event ≡ None
    → times is_any_closing x.steps ≤ closed_below x.steps (openings x.steps)
    → (if is_any_closing event then times is_any_closing x.steps + 1 else times is_any_closing x.steps)
    ≤ count_below (λ c. is_closing c event || is_closed c x.steps) (if is_opening event then openings x.steps + 1 else openings x.steps)
closings_by S x (Closed conn) n l =
    let a = open_parts x conn (are_false (causes S x (Closed conn)) n).0 in
    omega (arith, l, one_more_below (λ c. is_closed c x.steps) conn (openings x.steps) a.0 a.1)
closings_by S x Opened n l = omega (arith, l, grows (λ c. is_closed c x.steps) (openings x.steps), ap (closed_below x.steps) (suc_is (openings x.steps)))
closings_by S x _ n l = l

closings_are_closed : (S : Setting) (H : History) → IsLegal S H
    → times is_any_closing H ≤ closed_below H (openings H)
closings_are_closed S [] legal = omega arith
closings_are_closed S (s ∷ before) legal = closings_by S (past S before) s.event legal.1.has_no_cause (closings_are_closed S before legal.0)

open_by : (S : Setting) (x : Past) (event : Event) → own_cause S x event ≡ None
    → openings x.steps ≤ times is_any_closing x.steps + max_connections
    → (if is_opening event then openings x.steps + 1 else openings x.steps) ≤ (if is_any_closing event then times is_any_closing x.steps + 1 else times is_any_closing x.steps) + max_connections
open_by S x Opened n l = omega (arith, leb-false max_connections (openings x.steps - times is_any_closing x.steps) (are_false (causes S x Opened) n).0)
open_by S x (Closed conn) n l = omega (arith, l)
open_by S x _ n l = l

few_open : (S : Setting) (H : History) → IsLegal S H → openings H ≤ times is_any_closing H + max_connections
few_open S [] legal = omega arith
few_open S (s ∷ before) legal = open_by S (past S before) s.event legal.1.has_no_cause (few_open S before legal.0)

-- COMMANDS LEFT

abbrev AreLeft : ℕ → ℕ → Type 0
AreLeft arrived out = (out ≤ arrived) × (arrived ≤ out + max_unwritten)

left_by : (S : Setting) (x : Past) (c : ℕ) (event : Event) → own_cause S x event ≡ None
    → AreLeft (accepted_count c x.steps) (handed_count c x.steps)
    → AreLeft (if is_arrival c event then accepted_count c x.steps + 1 else accepted_count c x.steps) (if is_handing c event then handed_count c x.steps + 1 else handed_count c x.steps)
left_by S x c (Arrived conn request) n a = elim (cases_Bool (conn == c)) [
  | inl t ↦
      let (_, (_, (not_full, _))) = are_false (causes S x (Arrived conn request)) n in
      let free : commands_left conn x < max_unwritten = leb-false max_unwritten (commands_left conn x) not_full in
      let here : accepted_count c x.steps - handed_count c x.steps < max_unwritten = rw (eqb-true conn c t) at free in
      rw t (omega (arith, a.0), omega (arith, a.0, here))
  | inr f ↦ rw f a
]
left_by S x c (Handed conn) n a = elim (cases_Bool (conn == c)) [
  | inl t ↦
      let ready : is_ready conn x ≡ true =
      not-false (is_ready conn x) (are_false (causes S x (Handed conn)) n).1.0 in
      let some : 0 < commands_left conn x = ltb-true 0 (commands_left conn x) (and_parts (nat_lt 0 (commands_left conn x)) _ ready).0 in
      let here : 0 < accepted_count c x.steps - handed_count c x.steps = rw (eqb-true conn c t) at some in
      rw t (omega (arith, here), omega (arith, a.1))
  | inr f ↦ rw f a
]
left_by S x c _ n a = a

few_left : (S : Setting) (H : History) (c : ℕ) → IsLegal S H → AreLeft (accepted_count c H) (handed_count c H)
few_left S [] c legal = (omega arith, omega arith)
few_left S (s ∷ before) c legal = left_by S (past S before) c s.event legal.1.has_no_cause (few_left S before c legal.0)

-- PARTS THAT WAIT

fewer : (f g : Part → Bool) → ((p : Part) → f p ≡ true → g p ≡ true) → (ps : List Part)
    → length (filter f ps) ≤ length (filter g ps)
fewer f g e [] = omega arith
fewer f g e (p ∷ ps) = elim (cases_Bool (f p)) [
  | inl t ↦ rw (t, e p t) (omega (arith, fewer f g e ps))
  | inr n ↦ elim (cases_Bool (g p)) [ inl t ↦ rw (n, t) (omega (arith, fewer f g e ps)) | inr u ↦ rw (n, u) (fewer f g e ps) ]
]

-- without a fault of the host who waits after a step waited before it, if it was there
waited : (S : Setting) (before : History) (s : Step) (h : ℕ) → is_fault h s.event ≡ false → (p : Part)
    → waits h (past S (s ∷ before)) p ≡ true → waits h (past S before) p ≡ true
waited S before s h f p w =
    let x = past S before in
    let (of_host, not_sent, not_closed) = waits_parts h (past S (s ∷ before)) p w in
    let now : epoch h (s ∷ before) ≡ epoch h before = rw f refl in
    let here : is_of h (epoch h before) p ≡ true = sym (ap (λ e. is_of h e p) now) ∙ of_host in
    let unsent =
    or_parts (list_any (is_same p) x.sent) (list_any (is_same p) (sent_by x s.event)) (sym (list_any-append (is_same p) x.sent (sent_by x s.event)) ∙ not_sent) in
    let stays = or_parts (is_closing p.conn s.event) (is_closed p.conn before) not_closed in
    rw (here, unsent.0, stays.1) refl

is_of_present : (S : Setting) (before : History) (s : Step) (h : ℕ) → is_fault h s.event ≡ false → (p : Part)
    → waits h (past S (s ∷ before)) p ≡ true → is_of h (epoch h before) p ≡ true
is_of_present S before s h f p w = (waits_parts h (past S before) p (waited S before s h f p w)).0

waiting_grows : (S : Setting) (before : History) (s : Step) (h : ℕ) → is_fault h s.event ≡ false
    → length (waiting_parts h (past S (s ∷ before))) ≤ length (waiting_parts h (past S before)) + length (filter (is_of h (epoch h before)) (parts_by S (past S before) s.event))
waiting_grows S before s h f =
    let x = past S before in
    let y = past S (s ∷ before) in
    let new = parts_by S x s.event in
    omega (
      arith,
      ap length (filter-append (waits h y) x.parts new),
      length-append (filter (waits h y) x.parts) (filter (waits h y) new),
      fewer (waits h y) (waits h x) (waited S before s h f) x.parts,
      fewer (waits h y) (is_of h (epoch h before)) (is_of_present S before s h f) new,
    )

-- a part that is placed waits only where there is room
one_placed : (h : ℕ) (x : Past) (placed : List Part) (o : Option ℕ) (p : Part) → p.host ≡ None
    → before_it h x placed ≤ max_waiting
    → before_it h x placed + length (filter (is_of h (epoch h x.steps)) (with_host x placed o p ∷ [])) ≤ max_waiting
one_placed h x placed None p n l =
    let no : is_of h (epoch h x.steps) p ≡ false = rw n refl in
    rw no (omega (arith, l))
one_placed h x placed (Some k) p n l = elim (cases_Bool (is_of h (epoch h x.steps) (with_host x placed (Some k) p))) [
  | inl t ↦
      let a = and_parts (is_host h (Some k) && (epoch k x.steps == epoch h x.steps)) _ t in
      let same : k ≡ h = eqb-true k h (and_parts (k == h) _ a.0).0 in
      let free : nat_lt (before_it k x placed) max_waiting ≡ true =
      has_none (nat_lt (before_it k x placed) max_waiting) a.1 in
      let room : before_it h x placed < max_waiting =
      rw same at (ltb-true (before_it k x placed) max_waiting free) in
      rw t (omega (arith, room))
  | inr f ↦ rw f (omega (arith, l))
]
  where
    has_none : (b : Bool) → is_none (if b then None else Some proxy_busy) ≡ true → b ≡ true
    has_none true e = refl
    has_none false e = absurd cc

placing_fits : (S : Setting) (h : ℕ) (x : Past) (conn command : ℕ) (placed : List Part) (ps : List PartPlan)
    → before_it h x placed ≤ max_waiting → before_it h x (parts_placed S x conn command placed ps) ≤ max_waiting
placing_fits S h x conn command placed [] l = l
placing_fits S h x conn command placed (q ∷ ps) l =
    let p = placed_part S x conn command placed q in
    let f = is_of h (epoch h x.steps) in
    placing_fits S h x conn command (placed ++ p ∷ []) ps
    (omega (
      arith,
      one_placed h x placed (host_for S x q.key) (hostless conn command (length placed) q) refl l,
      ap length (filter-append f placed (p ∷ [])),
      length-append (filter f placed) (filter f (p ∷ [])),
    ))

placed_fit : (S : Setting) (h : ℕ) (x : Past) (conn : ℕ) (p : Plan) → length (waiting_parts h x) ≤ max_waiting
    → before_it h x (placed_by S x conn p) ≤ max_waiting
placed_fit S h x conn (parts how list) l = placing_fits S h x conn (accepted_count conn x.steps) [] list (omega (arith, l))
placed_fit S h x conn (here name value) l = omega (arith, l)
placed_fit S h x conn (leave name value) l = omega (arith, l)

parts_fit : (S : Setting) (h : ℕ) (x : Past) (event : Event) → length (waiting_parts h x) ≤ max_waiting
    → before_it h x (parts_by S x event) ≤ max_waiting
parts_fit S h x (Arrived conn request) l = placed_fit S h x conn (plan_for request) l
parts_fit S h x _ l = omega (arith, l)

-- after a fault nothing of its host waits
none_after : (S : Setting) (before : History) (s : Step) (h : ℕ) → is_fault h s.event ≡ true
    → waiting_parts h (past S (s ∷ before)) ≡ []
none_after S before s h t =
    let x = past S before in
    let y = past S (s ∷ before) in
    let next : epoch h (s ∷ before) ≡ epoch h before + 1 = rw t refl in
    none_of_next h x y.parts (waits h y)
    (λ q w. let a = is_of_parts h (epoch h (s ∷ before)) q (waits_parts h y q w).0 in (a.0, omega (arith, a.1, next)))
    (of_past_both before x.parts (parts_by S x s.event) (are_of_past S before) (new_of_past S x s.event))

few_are_waiting : (S : Setting) (H : History) (h : ℕ) → length (waiting_parts h (past S H)) ≤ max_waiting
few_are_waiting S [] h = omega arith
few_are_waiting S (s ∷ before) h = elim (cases_Bool (is_fault h s.event)) [
  | inl t ↦ omega (arith, ap length (none_after S before s h t))
  | inr f ↦ omega (arith, waiting_grows S before s h f, parts_fit S h (past S before) s.event (few_are_waiting S before h))
]

-- THE JOURNAL

abbrev Fits : History → Type 0
Fits H = (length H ≤ max_steps) × (payload H ≤ max_payload)

fits : (S : Setting) (H : History) → IsLegal S H → Fits H
fits S [] legal = (omega arith, omega arith)
fits S (s ∷ before) legal =
    let a =
    and_parts (nat_lt (length before) max_steps) (nat_le (payload before + payload_of s.event s.answer) max_payload) legal.1.has_room in
    (omega (arith, ltb-true (length before) max_steps a.0), leb-true (payload before + payload_of s.event s.answer) max_payload a.1)

pub limits_hold : (S : Setting) (H : History) → IsLegal S H → IsWithinLimits S H
limits_hold S H legal = record {
  were_opened = omega (arith, closings_are_closed S H legal, no_more_than (λ c. is_closed c H) (openings H));
  few_are_open = few_open S H legal;
  were_accepted = λ c. (few_left S H c legal).0;
  few_are_unwritten = λ c. (few_left S H c legal).1;
  few_wait = few_are_waiting S H;
  few_steps = (fits S H legal).0;
  few_bytes = (fits S H legal).1;
}
