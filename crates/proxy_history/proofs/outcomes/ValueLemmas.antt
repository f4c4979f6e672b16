-- The value of a part stays as it is.
use Rattle.std.proofs.Common.{◌≡◌, ℕ, ◌<◌, Bool, true, false, ◌==◌, ◌&&◌, nat_lt, is_none, List, [], ◌∷◌, ◌++◌, filter, Option, Some, None, refl, sym, ap, ◌∙◌, inl, inr, arith, if◌then◌else◌}
use Rattle.std.specs.List.{find}
use Rattle.std.specs.Prelude.{option_map}
use Rattle.std.proofs.lemmas.Bool.{and_parts, cases_Bool, eqb-true, ltb-true, lt-ltb, false_from_ne_true}
use Rattle.std.proofs.lemmas.List.{append-nil}
use Rattle.std.proofs.lemmas.List.Elements.{filter-append}
use Rattle.resp_core.specs.Tree.{Tree}
use Rattle.proxy_history.specs.Setting.{Setting}
use Rattle.proxy_history.specs.History.{epoch, is_fault, Step}
use Rattle.proxy_history.specs.Replies.{replies_from, reply_by}
use Rattle.proxy_history.specs.Part.{Past, Part, is_of, is_host, is_same}
use Rattle.proxy_history.specs.Past.{after}
use Rattle.proxy_history.specs.Waiting.{waiting_parts, waits, first, sent_by, sent_to}
use Rattle.proxy_history.specs.Value.{replies, reply_to, or_lost, value_at, value_or, value_of}
use Rattle.proxy_history.specs.Cause.{own_cause}
use Rattle.proxy_history.specs.declared.event.Event.{Event}
use Rattle.proxy_history.specs.declared.event.Event.TheVariants.{Taken, Answered}
use Rattle.proxy_history.proofs.GrowthLemmas.{find_zip_stays, times_grows}
use Rattle.proxy_history.proofs.causes.NoCauseLemmas.{is_current}
use Rattle.proxy_history.proofs.parts.FilterLemmas.{AreGood, filter_is_good, waits_parts}

-- A REPLY THAT CAME STAYS

found : Part → Part × Tree → Bool
found p r = is_same p r.0

pub option_map_stays : {A B : Type 0} (f : A → B) (o o' : Option A) (v : B) → ((r : A) → o ≡ Some r → o' ≡ Some r) → option_map f o ≡ Some v → option_map f o' ≡ Some v
option_map_stays f None o' v g e = absurd cc
option_map_stays f (Some r) o' v g e = rw (g r refl) e

-- what was sent one step later
pub sent_to_after : (S : Setting) (x : Past) (s : Step) (h e : ℕ) → sent_to h e (after S s x) ≡ sent_to h e x ++ filter (is_of h e) (sent_by x s.event)
sent_to_after S x s h e = filter-append (is_of h e) x.sent (sent_by x s.event)

reply_stays : (S : Setting) (x : Past) (s : Step) (h : ℕ) (p : Part) (v : Tree) → reply_to p h x ≡ Some v → reply_to p h (after S s x) ≡ Some v
reply_stays S x s h p v e =
    rw (sent_to_after S x s h p.epoch)
    (option_map_stays (λ r. r.1) (find (λ r. is_same p r.0) (replies h p.epoch x)) _ v
    (find_zip_stays (λ r. is_same p r.0) (sent_to h p.epoch x) (filter (is_of h p.epoch) (sent_by x s.event)) (replies_from h p.epoch x.steps) (reply_by h p.epoch s.event))
    e)

-- NOTHING COMES TO AN EARLIER EPOCH

-- whom a reply of the present epoch is not for
old_epoch : (x : Past) (h e host ep : ℕ) → e < epoch h x.steps → ep ≡ epoch host x.steps → ((host == h) && (ep == e)) ≡ false
old_epoch x h e host ep l q = false_from_ne_true _ (λ t.
    let a = and_parts (host == h) (ep == e) t in
    omega (arith, l, q, eqb-true ep e a.1, ap (λ k. epoch k x.steps) (eqb-true host h a.0)))

if_false : {X : Type 0} (b : Bool) (x y : X) → b ≡ false → (if b then x else y) ≡ y
if_false b x y e = rw e refl

no_reply : (S : Setting) (x : Past) (event : Event) (h e : ℕ) → own_cause S x event ≡ None → e < epoch h x.steps → reply_by h e event ≡ []
no_reply S x (Answered host ep value t) h e n l = if_false ((host == h) && (ep == e)) _ _ (old_epoch x h e host ep l (is_current S x host ep t value n))
no_reply S x _ h e n l = refl

-- a part belongs to one host and one epoch
pub same_host : (h k : ℕ) (o : Option ℕ) → is_host h o ≡ true → is_host k o ≡ true → h ≡ k
same_host h k None a b = absurd cc
same_host h k (Some j) a b = sym (eqb-true j h a) ∙ eqb-true j k b

pub is_of_parts : (h e : ℕ) (q : Part) → is_of h e q ≡ true → (is_host h q.host ≡ true) × (q.epoch ≡ e)
is_of_parts h e q t =
    let a = and_parts (is_host h q.host && (q.epoch == e)) (is_none q.local) t in
    let b = and_parts (is_host h q.host) (q.epoch == e) a.0 in
    (b.0, eqb-true q.epoch e b.1)

of_one : (x : Past) (h e host : ℕ) (q : Part) → e < epoch h x.steps → waits host x q ≡ true → is_of h e q ≡ false
of_one x h e host q l w = false_from_ne_true _ (λ t.
    let a = is_of_parts host (epoch host x.steps) q (waits_parts host x q w).0 in
    let b = is_of_parts h e q t in
    omega (arith, l, ap (λ k. epoch k x.steps) (same_host h host q.host b.0 a.0), a.1, b.1))

none_first : (x : Past) (h e host : ℕ) (ps : List Part) → e < epoch h x.steps → AreGood (waits host x) ps → filter (is_of h e) (first ps) ≡ []
none_first x h e host [] l g = refl
none_first x h e host (q ∷ ps) l g = rw (of_one x h e host q l g.0) refl

none_sent : (x : Past) (event : Event) (h e : ℕ) → e < epoch h x.steps → filter (is_of h e) (sent_by x event) ≡ []
none_sent x (Taken host) h e l = none_first x h e host (waiting_parts host x) l (filter_is_good (waits host x) x.parts)
none_sent x _ h e l = refl

same_reply : (S : Setting) (x : Past) (s : Step) (h : ℕ) (p : Part) → own_cause S x s.event ≡ None → p.epoch < epoch h x.steps → reply_to p h (after S s x) ≡ reply_to p h x
same_reply S x s h p n l =
    rw (sent_to_after S x s h p.epoch, none_sent x s.event h p.epoch l, no_reply S x s.event h p.epoch n l, append-nil, append-nil) refl

-- THE VALUE

lost_stays : (S : Setting) (x : Past) (s : Step) (h : ℕ) (p : Part) (v : Tree) → own_cause S x s.event ≡ None
    → value_at x p (Some h) ≡ Some v → value_at (after S s x) p (Some h) ≡ Some v
lost_stays S x s h p v n e = elim (cases_Bool (nat_lt p.epoch (epoch h x.steps))) [
  | inl t ↦
      let l = ltb-true _ _ t in
      let still : nat_lt p.epoch (epoch h (s ∷ x.steps)) ≡ true = lt-ltb _ _ (omega (arith, l, times_grows (is_fault h) s x.steps)) in
      rw (still, same_reply S x s h p n l) (rw t at e)
  | inr f ↦
      let here : reply_to p h x ≡ Some v = of_false (reply_to p h x) (rw f at e) in
      rw (reply_stays S x s h p v here) refl
]
  where
    of_false : (o : Option Tree) → or_lost false o ≡ Some v → o ≡ Some v
    of_false None g = g
    of_false (Some w) g = g

value_at_stays : (S : Setting) (x : Past) (s : Step) (p : Part) (v : Tree) (o : Option ℕ) → own_cause S x s.event ≡ None
    → value_at x p o ≡ Some v → value_at (after S s x) p o ≡ Some v
value_at_stays S x s p v None n e = absurd cc
value_at_stays S x s p v (Some h) n e = lost_stays S x s h p v n e

value_or_stays : (o a b : Option Tree) (v : Tree) → (a ≡ Some v → b ≡ Some v) → value_or o a ≡ Some v → value_or o b ≡ Some v
value_or_stays None a b v f e = f e
value_or_stays (Some w) a b v f e = e

pub value_stays : (S : Setting) (x : Past) (s : Step) → own_cause S x s.event ≡ None → (p : Part) (v : Tree) → value_of x p ≡ Some v → value_of (after S s x) p ≡ Some v
value_stays S x s n p v e = value_or_stays p.local _ _ v (value_at_stays S x s p v p.host n) e
