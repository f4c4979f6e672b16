-- The counts of a connection in a legal history.
use Rattle.std.proofs.Common.{◌≡◌, ℕ, ◌+◌, ◌-◌, ◌<◌, ◌≤◌, Bool, true, false, not, ◌==◌, nat_lt, List, [], ◌∷◌, length, None, refl, ◌∙◌, subst, inl, inr, arith, if◌then◌else◌}
use Rattle.std.proofs.lemmas.Bool.{cases_Bool, and_parts, or_from, not-true, not-false, eqb-true, ltb-true, ne_eqb, and_left}
use Rattle.splitter.specs.Plan.{is_last}
use Rattle.splitter.specs.declared.request.Request.{Request}
use Rattle.proxy_history.specs.Setting.{Setting}
use Rattle.proxy_history.specs.History.{History, Step, times, openings, accepted_count, handed_count, is_open, is_closed, is_finishing, is_opening, is_arrival, is_handing, is_closing, finishes, requests, plan_for}
use Rattle.proxy_history.specs.Part.{Past}
use Rattle.proxy_history.specs.Past.{past}
use Rattle.proxy_history.specs.Cause.{own_cause, causes, is_ready, commands_left}
use Rattle.proxy_history.specs.Outcome.{outcome}
use Rattle.std.specs.Prelude.{is_some}
use Rattle.proxy_history.specs.Legal.{IsLegal}
use Rattle.proxy_history.specs.declared.event.Event.{Event}
use Rattle.proxy_history.specs.declared.event.Event.TheVariants.{Arrived, Finished, Handed, Closed}
use Rattle.proxy_history.proofs.CallerLemmas.{first_true-none as are_false, times-cons as times_grows, times-length, length-requests}

-- OPEN CONNECTIONS

pub open_parts : (c : ℕ) (H : History) → is_open c H ≡ true → (c < openings H) × (is_closed c H ≡ false)
open_parts c H e =
    let a = and_parts (nat_lt c (openings H)) (not (is_closed c H)) e in
    (ltb-true c (openings H) a.0, not-true (is_closed c H) a.1)

-- the connection of an event without a cause is open
pub arrived_open : (S : Setting) (x : Past) (conn : ℕ) (request : Request) → own_cause S x (Arrived conn request) ≡ None → is_open conn x.steps ≡ true
arrived_open S x conn request n = let a = are_false (causes S x (Arrived conn request)) n in not-false (is_open conn x.steps) a.0

pub finished_open : (S : Setting) (x : Past) (conn : ℕ) → own_cause S x (Finished conn) ≡ None → is_open conn x.steps ≡ true
finished_open S x conn n = let a = are_false (causes S x (Finished conn)) n in not-false (is_open conn x.steps) a.0

pub handed_open : (S : Setting) (x : Past) (conn : ℕ) → own_cause S x (Handed conn) ≡ None → is_open conn x.steps ≡ true
handed_open S x conn n = let a = are_false (causes S x (Handed conn)) n in not-false (is_open conn x.steps) a.0

pub closed_open : (S : Setting) (x : Past) (conn : ℕ) → own_cause S x (Closed conn) ≡ None → is_open conn x.steps ≡ true
closed_open S x conn n = let a = are_false (causes S x (Closed conn)) n in not-false (is_open conn x.steps) a.0

-- A CONNECTION THAT WAS NEVER OPENED

-- Nothing of the connection has happened.
pub record IsUnused (c : ℕ) (H : History) : Type 0 where
  pub accepted : accepted_count c H ≡ 0
  pub handed : handed_count c H ≡ 0
  pub closed : is_closed c H ≡ false
  pub finishing : is_finishing c H ≡ false

-- An event is of another connection.
record IsOfOther (c : ℕ) (event : Event) : Type 0 where
  no_arrival : is_arrival c event ≡ false
  no_handing : is_handing c event ≡ false
  no_closing : is_closing c event ≡ false
  no_finish : finishes c event ≡ false

other : (c conn : ℕ) (H : History) → is_open conn H ≡ true → openings H ≤ c → (conn == c) ≡ false
other c conn H e l = ne_eqb conn c (λ q. omega (arith, l, q, (open_parts conn H e).0))

of_other : (S : Setting) (x : Past) (c : ℕ) (event : Event) → own_cause S x event ≡ None → openings x.steps ≤ c → IsOfOther c event
of_other S x c (Arrived conn request) n l =
    let o = other c conn x.steps (arrived_open S x conn request n) l in
    record { no_arrival = o; no_handing = refl; no_closing = refl; no_finish = and_left (conn == c) (is_last (plan_for request)) o }
of_other S x c (Finished conn) n l =
    record { no_arrival = refl; no_handing = refl; no_closing = refl; no_finish = other c conn x.steps (finished_open S x conn n) l }
of_other S x c (Handed conn) n l =
    record { no_arrival = refl; no_handing = other c conn x.steps (handed_open S x conn n) l; no_closing = refl; no_finish = refl }
of_other S x c (Closed conn) n l =
    record { no_arrival = refl; no_handing = refl; no_closing = other c conn x.steps (closed_open S x conn n) l; no_finish = refl }
of_other S x c _ n l = record { no_arrival = refl; no_handing = refl; no_closing = refl; no_finish = refl }

one_less : (is : Event → Bool) (s : Step) (H : History) → is s.event ≡ false → times is (s ∷ H) ≡ times is H
one_less is s H e = rw e refl

pub unused : (S : Setting) (H : History) (c : ℕ) → IsLegal S H → openings H ≤ c → IsUnused c H
unused S [] c legal l = record { accepted = refl; handed = refl; closed = refl; finishing = refl }
unused S (s ∷ H) c legal l =
    let before : openings H ≤ c = omega (arith, l, times_grows is_opening s H) in
    let a = unused S H c legal.0 before in
    let b = of_other S (past S H) c s.event legal.1.has_no_cause before in
    record {
      accepted = one_less (is_arrival c) s H b.no_arrival ∙ a.accepted;
      handed = one_less (is_handing c) s H b.no_handing ∙ a.handed;
      closed = or_from _ _ b.no_closing a.closed;
      finishing = or_from _ _ b.no_finish a.finishing;
    }

pub no_requests : (c : ℕ) (H : History) → accepted_count c H ≡ 0 → requests c H ≡ []
no_requests c H e = is_nil (requests c H) (length-requests c H ∙ e)
  where
    is_nil : {X : Type 0} (xs : List X) → length xs ≡ 0 → xs ≡ []
    is_nil [] e = refl
    is_nil (x ∷ xs) e = absurd (omega (arith, e))

-- NO MORE ARE HANDED OUT THAN WERE ACCEPTED

-- who is handed something is owed it
pub is_owed : (S : Setting) (x : Past) (c : ℕ) → own_cause S x (Handed c) ≡ None → handed_count c x.steps < accepted_count c x.steps
is_owed S x c n =
    let a = are_false (causes S x (Handed c)) n in
    let b = and_parts (nat_lt 0 (commands_left c x)) (is_some (outcome c (handed_count c x.steps) x)) (not-false (is_ready c x) a.1.0) in
    let l : 0 < accepted_count c x.steps - handed_count c x.steps = ltb-true 0 (commands_left c x) b.0 in
    omega (arith, l)

handed_below : (S : Setting) (x : Past) (c : ℕ) (event : Event) → own_cause S x event ≡ None → handed_count c x.steps ≤ accepted_count c x.steps
    → (if is_handing c event then handed_count c x.steps + 1 else handed_count c x.steps) ≤ accepted_count c x.steps
handed_below S x c (Handed conn) n l = elim (cases_Bool (conn == c)) [
  | inl t ↦ let e = is_owed S x conn n in let d : handed_count c x.steps < accepted_count c x.steps = subst (λ (z : ℕ). handed_count z x.steps < accepted_count z x.steps) (eqb-true conn c t) e in rw t (omega (arith, d))
  | inr f ↦ rw f l
]
handed_below S x c _ n l = l

pub handed_were_accepted : (S : Setting) (H : History) (c : ℕ) → IsLegal S H → handed_count c H ≤ accepted_count c H
handed_were_accepted S [] c legal = omega arith
handed_were_accepted S (s ∷ H) c legal =
    let a = handed_below S (past S H) c s.event legal.1.has_no_cause (handed_were_accepted S H c legal.0) in
    omega (arith, a, times_grows (is_arrival c) s H)

-- COUNTS AND THE LENGTH OF A HISTORY

pub accepted-at_most : (c : ℕ) (H : History) → accepted_count c H ≤ length H
accepted-at_most c H = times-length (is_arrival c) H

pub handed-at_most : (c : ℕ) (H : History) → handed_count c H ≤ length H
handed-at_most c H = times-length (is_handing c) H
