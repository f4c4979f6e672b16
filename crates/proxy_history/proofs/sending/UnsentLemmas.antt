-- Which parts wait.
use Rattle.std.proofs.Common.{◌≡◌, ◌↔◌, ℕ, Bool, true, false, ◌==◌, ◌&&◌, is_none, List, [], ◌∷◌, ◌++◌, Contains, Option, Some, None, refl, sym, ap, ◌∙◌, subst, inl, inr}
use Rattle.std.specs.List.{list_any}
use Rattle.std.proofs.lemmas.Bool.{and_parts, both_ways, eqb-true, eq-eqb, false_from_ne_true}
use Rattle.std.proofs.lemmas.List.Elements.{Contains-append_left, Contains-append_right, Contains-push}
use Rattle.list_lemmas.proofs.CallerLemmas.{Contains-nil, Contains-cases, Contains-filter, Contains-filter_passing, list_any-true, list_any-member}
use Rattle.proxy_history.specs.Setting.{Setting}
use Rattle.proxy_history.specs.History.{History, Step, epoch, is_fault}
use Rattle.proxy_history.specs.Part.{Part, is_of, is_host, is_same}
use Rattle.proxy_history.specs.Past.{past, parts_in}
use Rattle.proxy_history.specs.Waiting.{waiting_parts, waits}
use Rattle.proxy_history.specs.Arrival.{parts_by}
use Rattle.proxy_history.specs.Laws.{AreApart, IsPlaced, HasArrived}
use Rattle.proxy_history.specs.SendingLaws.{IsUnsent}
use Rattle.proxy_history.proofs.parts.AreApartLemmas.{parts_are_in_order}
use Rattle.proxy_history.proofs.parts.ArrivalLemmas.{parts_have_arrived, sent_parts_arrived}
use Rattle.proxy_history.proofs.FaultLemmas.{faults_raise_epochs}
use Rattle.proxy_history.proofs.parts.FilterLemmas.{AreGood, filter_is_good, waits_parts}
use Rattle.proxy_history.proofs.sending.SentOnceLemmas.{is_same_sym}
use Rattle.proxy_history.proofs.sending.WaitingStepLemmas.{is_same_self}

-- LISTS OF PARTS

-- each of these parts passes the test
is_good : (f : Part → Bool) (ps : List Part) (p : Part) → AreGood f ps → Contains ps p → f p ≡ true
is_good f [] p g h = absurd (Contains-nil p h)
is_good f (q ∷ ps) p g h = elim (Contains-cases q ps p h) [ inl is ↦ ap f (sym is) ∙ g.0 | inr more ↦ is_good f ps p g.1 more ]

-- among parts that are apart the same are equal
pub one_part : (ps : List Part) (p q : Part) → AreApart ps → Contains ps p → Contains ps q → is_same p q ≡ true
    → p ≡ q
one_part [] p q a h g e = absurd (Contains-nil p h)
one_part (r ∷ ps) p q a h g e = elim (Contains-cases r ps p h) [
  | inl is ↦ elim (Contains-cases r ps q g) [
    | inl too ↦ sym is ∙ too
    | inr later ↦ absurd (both_ways (list_any (is_same r) ps) a.0 (list_any-member (is_same r) ps q later (ap (λ z. is_same z q) is ∙ e)))
  ]
  | inr more ↦ elim (Contains-cases r ps q g) [
    | inl is ↦ absurd (both_ways (list_any (is_same r) ps) a.0 (list_any-member (is_same r) ps p more (ap (λ z. is_same z p) is ∙ is_same_sym p q e)))
    | inr later ↦ one_part ps p q a.1 more later e
  ]
]

-- EPOCHS

-- who arrived for a host and got no value is of the host's epoch at that moment
epoch_is : (S : Setting) (H : History) (h : ℕ) (p : Part) (a : HasArrived S H p) → p.host ≡ Some h
    → p.epoch ≡ epoch h a.before
epoch_is S H h p a e =
    let got : IsPlaced (past S a.before) a.placed (Some h) p.epoch p.local =
    subst (λ o. IsPlaced (past S a.before) a.placed o p.epoch p.local) e a.got in
    got.0

-- the arrival itself is no fault
at_arrival : (S : Setting) (H : History) (h : ℕ) (p : Part) (a : HasArrived S H p)
    → epoch h (a.step ∷ a.before) ≡ epoch h a.before
at_arrival S H h p a =
    let none : is_fault h a.step.event ≡ false = ap (is_fault h) a.arrives in
    rw none refl

-- WHO WAITS

is_some_host : (h : ℕ) (o : Option ℕ) → is_host h o ≡ true → o ≡ Some h
is_some_host h None e = absurd cc
is_some_host h (Some k) e = ap (λ z. Some z) (eqb-true k h e)

has_no_value : {X : Type 0} (o : Option X) → is_none o ≡ true → o ≡ None
has_no_value None e = refl
has_no_value (Some v) e = absurd cc

is_waiting : (S : Setting) (H : History) (h : ℕ) (p : Part) → Contains (waiting_parts h (past S H)) p
    → IsUnsent S H h p
is_waiting S H h p c =
    let x = past S H in
    let a = parts_have_arrived S H p (Contains-filter (waits h x) x.parts p c) in
    let (of_host, not_sent, not_closed) = waits_parts h x p (is_good (waits h x) (waiting_parts h x) p (filter_is_good (waits h x) x.parts) c) in
    let o = and_parts (is_host h p.host && (p.epoch == epoch h H)) (is_none p.local) of_host in
    let b = and_parts (is_host h p.host) (p.epoch == epoch h H) o.0 in
    let host : p.host ≡ Some h = is_some_host h p.host b.0 in
    let same : epoch h (a.later ++ a.step ∷ a.before) ≡ epoch h (a.step ∷ a.before) =
    ap (epoch h) (sym a.split) ∙ sym (eqb-true p.epoch (epoch h H) b.1) ∙ epoch_is S H h p a host
    ∙ sym (at_arrival S H h p a) in
    record {
      arrival = a;
      for_host = host;
      no_value = has_no_value p.local o.1;
      no_fault = (faults_raise_epochs a.later (a.step ∷ a.before) h).1 same;
      not_sent = λ s. both_ways (list_any (is_same p) x.sent) not_sent (list_any-member (is_same p) x.sent p s (is_same_self p));
      not_closed = not_closed;
    }

-- a part that arrived is among the parts
is_part : (S : Setting) (later : History) (s : Step) (before : History) (p : Part)
    → Contains (parts_by S (past S before) s.event) p → Contains (past S (later ++ s ∷ before)).parts p
is_part S [] s before p h = Contains-append_right (parts_in S before) (parts_by S (past S before) s.event) p h
is_part S (t ∷ later) s before p h =
    Contains-append_left (parts_in S (later ++ s ∷ before)) (parts_by S (past S (later ++ s ∷ before)) t.event) p (is_part S later s before p h)

arrived_is_part : (S : Setting) (H : History) (p : Part) → HasArrived S H p → Contains (past S H).parts p
arrived_is_part S H p a =
    let here : Contains (a.placed ++ p ∷ a.rest) p =
    Contains-append_right a.placed (p ∷ a.rest) p (Contains-append_left (p ∷ []) a.rest p (Contains-push [] p)) in
    let placed : Contains (parts_by S (past S a.before) a.step.event) p =
    subst (λ z. Contains z p) (sym a.placed_is) here in
    subst (λ z. Contains (past S z).parts p) (sym a.split) (is_part S a.later a.step a.before p placed)

in_waiting : (S : Setting) (H : History) (h : ℕ) (p : Part) → IsUnsent S H h p
    → Contains (waiting_parts h (past S H)) p
in_waiting S H h p w =
    let x = past S H in
    let a = w.arrival in
    let part = arrived_is_part S H p a in
    let now : p.epoch ≡ epoch h H =
    epoch_is S H h p a w.for_host ∙ sym (at_arrival S H h p a)
    ∙ sym ((faults_raise_epochs a.later (a.step ∷ a.before) h).0 w.no_fault) ∙ ap (epoch h) (sym a.split) in
    let of_host : is_of h (epoch h H) p ≡ true =
    rw (w.for_host, eq-eqb h h refl, eq-eqb p.epoch (epoch h H) now, w.no_value) refl in
    let unsent : list_any (is_same p) x.sent ≡ false = false_from_ne_true (list_any (is_same p) x.sent) (λ t.
    let (q, was_sent, same) = list_any-true (is_same p) x.sent t in
    let is : p ≡ q =
    one_part x.parts p q (parts_are_in_order S H).apart part (sent_parts_arrived S H q was_sent) same in
    w.not_sent (subst (Contains x.sent) (sym is) was_sent)) in
    Contains-filter_passing (waits h x) x.parts p part (rw (of_host, unsent, w.not_closed) refl)

pub unsent_parts_wait : (S : Setting) (H : History) (h : ℕ) (p : Part)
    → Contains (waiting_parts h (past S H)) p ↔ IsUnsent S H h p
unsent_parts_wait S H h p = (is_waiting S H h p, in_waiting S H h p)
