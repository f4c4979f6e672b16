-- Whose value a part gets.
use Rattle.std.proofs.Common.{◌≡◌, ◌⊎◌, ◌↔◌, ℕ, zero, suc, Bool, true, false, nat_lt, List, [], ◌∷◌, Option, Some, None, refl, sym, ap, ◌∙◌, inl, inr}
use Rattle.std.specs.List.{find, list_any, zip, slice_get}
use Rattle.std.specs.Prelude.{option_map}
use Rattle.std.proofs.lemmas.Bool.{cases_Bool, ltb-true, lt-ltb, or_left, or_right, both_ways}
use Rattle.resp_core.specs.Tree.{Tree}
use Rattle.proxy_history.specs.Setting.{Setting}
use Rattle.proxy_history.specs.History.{History, epoch}
use Rattle.proxy_history.specs.Replies.{replies_from}
use Rattle.proxy_history.specs.Part.{Past, Part, is_of, is_same}
use Rattle.proxy_history.specs.Past.{past}
use Rattle.proxy_history.specs.Waiting.{sent_to}
use Rattle.proxy_history.specs.Value.{replies, reply_to, or_lost, value_at, value_or, value_of, upstream_failure}
use Rattle.proxy_history.specs.Legal.{IsLegal}
use Rattle.proxy_history.specs.Laws.{AreApart, IsReply, IsLost, IsOwnValue}
use Rattle.proxy_history.proofs.FaultLemmas.{epochs_end_by_faults}
use Rattle.proxy_history.proofs.sending.SentOnceLemmas.{is_same_sym, is_same_trans, none_twice}
use Rattle.proxy_history.proofs.sending.WaitingStepLemmas.{apart_filter}

-- a pair that is found stands in one place of both lists
record IsAt {A B : Type 0} (t : A × B → Bool) (xs : List A) (ys : List B) (r : A × B) : Type 0 where
  place : ℕ
  left : slice_get xs place ≡ Some r.0
  right : slice_get ys place ≡ Some r.1
  passes : t r ≡ true

found_at : {A B : Type 0} (t : A × B → Bool) (xs : List A) (ys : List B) (r : A × B) → find t (zip xs ys) ≡ Some r → IsAt t xs ys r
found_at t [] ys r e = absurd cc
found_at t (x ∷ xs) [] r e = absurd cc
found_at t (x ∷ xs) (y ∷ ys) r e = elim (cases_Bool (t (x, y))) [
  | inl b ↦
      let same : Some (x, y) ≡ Some r = rw b at e in
      let is : (x, y) ≡ r = cc in
      record { place = 0; left = ap (λ q. Some q.0) is; right = ap (λ q. Some q.1) is; passes = rw (← is) b }
  | inr b ↦ let a = found_at t xs ys r (rw b at e) in record { place = suc a.place; left = a.left; right = a.right; passes = a.passes }
]

has_reply : (x : Past) (h : ℕ) (p : Part) (v : Tree) (o : Option (Part × Tree)) → find (λ r. is_same p r.0) (replies h p.epoch x) ≡ o → option_map (λ r. r.1) o ≡ Some v → IsReply x h p v
has_reply x h p v None q e = absurd cc
has_reply x h p v (Some r) q e =
    let a = found_at (λ r. is_same p r.0) (sent_to h p.epoch x) (replies_from h p.epoch x.steps) r q in
    record { place = a.place; sent = r.0; is_sent = a.left; is_same = a.passes; came = a.right ∙ e }

-- where no pair is found none stands in one place of both lists
none_at : {A B : Type 0} (t : A × B → Bool) (xs : List A) (ys : List B) (place : ℕ) (a : A) (b : B) → find t (zip xs ys) ≡ None
    → slice_get xs place ≡ Some a → slice_get ys place ≡ Some b → t (a, b) ≡ true → ⊥
none_at t [] ys place a b e l r p = absurd cc
none_at t (x ∷ xs) [] place a b e l r p = absurd cc
none_at t (x ∷ xs) (y ∷ ys) zero a b e l r p =
    let left : x ≡ a = cc in
    let right : y ≡ b = cc in
    let q : t (x, y) ≡ true = ap (λ z. t (z, y)) left ∙ ap (λ z. t (a, z)) right ∙ p in
    let f : Some (x, y) ≡ None = rw q at e in
    absurd cc
none_at t (x ∷ xs) (y ∷ ys) (suc place) a b e l r p = elim (cases_Bool (t (x, y))) [
  | inl q ↦ let f : Some (x, y) ≡ None = rw q at e in absurd cc
  | inr q ↦ none_at t xs ys place a b (rw q at e) l r p
]

no_reply_at : (x : Past) (h : ℕ) (p : Part) (o : Option (Part × Tree)) → find (λ r. is_same p r.0) (replies h p.epoch x) ≡ o → option_map (λ r. r.1) o ≡ None → (v : Tree) → IsReply x h p v → ⊥
no_reply_at x h p None q e v a = none_at (λ r. is_same p r.0) (sent_to h p.epoch x) (replies_from h p.epoch x.steps) a.place a.sent v q a.is_sent a.came a.is_same
no_reply_at x h p (Some r) q e v a = absurd cc

by_reply : (x : Past) (h : ℕ) (p : Part) (v : Tree) (b : Bool) (o : Option Tree) → reply_to p h x ≡ o → or_lost b o ≡ Some v
    → IsReply x h p v ⊎ ((v ≡ upstream_failure) × (b ≡ true) × (reply_to p h x ≡ None))
by_reply x h p v b (Some w) q e = inl (has_reply x h p v (find (λ r. is_same p r.0) (replies h p.epoch x)) refl (q ∙ e))
by_reply x h p v true None q e = let is : upstream_failure ≡ v = cc in inr (sym is, refl, q)
by_reply x h p v false None q e = absurd cc

-- AND THE OTHER WAY

-- a part that stands among these is found there
any_at : (p : Part) (ps : List Part) (place : ℕ) (q : Part) → slice_get ps place ≡ Some q → is_same p q ≡ true → list_any (is_same p) ps ≡ true
any_at p [] place q e i = absurd cc
any_at p (x ∷ ps) zero q e i =
    let is : x ≡ q = cc in
    or_left (is_same p x) (list_any (is_same p) ps) (ap (is_same p) is ∙ i)
any_at p (x ∷ ps) (suc place) q e i = or_right (is_same p x) (list_any (is_same p) ps) (any_at p ps place q e i)

-- each part was sent in one place, so the value of that place is found
reply_at_place : (p q : Part) (v : Tree) (xs : List Part) (ys : List Tree) (place : ℕ) → AreApart xs → slice_get xs place ≡ Some q → is_same p q ≡ true → slice_get ys place ≡ Some v
    → option_map (λ r. r.1) (find (λ r. is_same p r.0) (zip xs ys)) ≡ Some v
reply_at_place p q v [] ys place a l i r = absurd cc
reply_at_place p q v (x ∷ xs) [] place a l i r = absurd cc
reply_at_place p q v (x ∷ xs) (y ∷ ys) zero a l i r =
    let is : x ≡ q = cc in
    let found : is_same p x ≡ true = ap (is_same p) is ∙ i in
    let value : y ≡ v = cc in
    rw found (ap (λ z. Some z) value)
reply_at_place p q v (x ∷ xs) (y ∷ ys) (suc place) a l i r = elim (cases_Bool (is_same p x)) [
  | inl t ↦ absurd (both_ways (list_any (is_same x) xs) a.0 (any_at x xs place q l (is_same_trans x p q (is_same_sym p x t) i)))
  | inr f ↦ rw f (reply_at_place p q v xs ys place a.1 l i r)
]

reply_is_value : (S : Setting) (H : History) (p : Part) (h : ℕ) (v : Tree) → IsReply (past S H) h p v → reply_to p h (past S H) ≡ Some v
reply_is_value S H p h v a =
    reply_at_place p a.sent v (sent_to h p.epoch (past S H)) (replies_from h p.epoch H) a.place
    (apart_filter (is_of h p.epoch) (past S H).sent (none_twice S H)) a.is_sent a.is_same a.came

no_reply_to : (S : Setting) (H : History) (p : Part) (h : ℕ) (o : Option Tree) → ((v : Tree) → IsReply (past S H) h p v → ⊥) → reply_to p h (past S H) ≡ o → o ≡ None
no_reply_to S H p h None f q = refl
no_reply_to S H p h (Some v) f q = absurd (f v (has_reply (past S H) h p v (find (λ r. is_same p r.0) (replies h p.epoch (past S H))) refl q))

own_is_value : (S : Setting) (H : History) (p : Part) (h : ℕ) (v : Tree) → IsLegal S H → IsReply (past S H) h p v ⊎ ((v ≡ upstream_failure) × IsLost S H h p) → value_at (past S H) p (Some h) ≡ Some v
own_is_value S H p h v legal (inl reply) = rw (reply_is_value S H p h v reply) refl
own_is_value S H p h v legal (inr lost) =
    let none : reply_to p h (past S H) ≡ None = no_reply_to S H p h (reply_to p h (past S H)) (lost.1.unanswered) refl in
    let over : nat_lt p.epoch (epoch h H) ≡ true = lt-ltb p.epoch (epoch h H) ((epochs_end_by_faults S H h p.epoch legal).0 lost.1.fault) in
    rw (none, over) (ap (λ z. Some z) (sym lost.0))

value_is_own : (S : Setting) (H : History) (p : Part) (h : ℕ) (v : Tree) → IsLegal S H → value_at (past S H) p (Some h) ≡ Some v → IsReply (past S H) h p v ⊎ ((v ≡ upstream_failure) × IsLost S H h p)
value_is_own S H p h v legal here =
    elim (by_reply (past S H) h p v (nat_lt p.epoch (epoch h H)) (reply_to p h (past S H)) refl here) [
      | inl reply ↦ inl reply
      | inr (failure, gone, none_found) ↦ inr (
        failure,
        record {
          fault = (epochs_end_by_faults S H h p.epoch legal).1 (ltb-true p.epoch (epoch h H) gone);
          unanswered = no_reply_at (past S H) h p (find (λ r. is_same p r.0) (replies h p.epoch (past S H))) refl none_found;
        },
      )
    ]

-- by what the part got at its arrival, and its host
own_by : (S : Setting) (H : History) (p : Part) (v : Tree) → IsLegal S H → (local : Option Tree) (host : Option ℕ)
    → (value_or local (value_at (past S H) p host) ≡ Some v) ↔ IsOwnValue S H p local host v
own_by S H p v legal (Some w) host = ((λ e. let is : w ≡ v = cc in sym is), λ e. ap (λ z. Some z) (sym e))
own_by S H p v legal None None = ((λ e. absurd cc), λ none. absurd none)
own_by S H p v legal None (Some h) = (value_is_own S H p h v legal, own_is_value S H p h v legal)

pub values_are_own : (S : Setting) (H : History) (p : Part) (v : Tree) → IsLegal S H
    → (value_of (past S H) p ≡ Some v) ↔ IsOwnValue S H p p.local p.host v
values_are_own S H p v legal = own_by S H p v legal p.local p.host
