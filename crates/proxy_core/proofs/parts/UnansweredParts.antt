-- How the values of the parts move where a host answers or fails.
use Rattle.std.proofs.Common.{◌≡◌, ◌⊎◌, ℕ, ◌+◌, ◌<◌, ◌≤◌, ◌==◌, ◌&&◌, ◌||◌, not, nat_lt, is_none, Bool, true, false, if◌then◌else◌, List, [], ◌∷◌, ◌++◌, length, filter, drop, find, zip, Option, Some, None, option_map, Contains, refl, sym, ap, ◌∙◌, subst, inl, inr, arith}
use Rattle.std.specs.List.{list_any}
use Rattle.std.proofs.lemmas.Bool.{cases_Bool, and_parts, and_from, eq-eqb, eqb-true, lt-ltb, ltb-true, ltb-false, le-ltb, both_ways, or_right, or_left}
use Rattle.std.proofs.lemmas.List.{append-nil}
use Rattle.std.proofs.lemmas.List.Elements.{Contains-append_cases}
use Rattle.std.proofs.lemmas.List.Folds.{list_any-append}
use Rattle.std.proofs.Common.{length-drop}
use Rattle.list_lemmas.proofs.CallerLemmas.{list_any-filter, Contains-nil, Contains-filter, Contains-first, Contains-cases, Contains-drop, Contains-filter_passing, filter-passes, list_any-true, list_any-member, list_any-false, find-zip_none, list_any-unfound}
use Rattle.resp_core.specs.Tree.{Tree}
use Rattle.resp_core.specs.Value.{tree_of}
use Rattle.resp_core.specs.declared.value.Value.{Value}
use Rattle.proxy_history.specs.Setting.{Setting}
use Rattle.proxy_history.specs.History.{History, Step, epoch, is_closed}
use Rattle.proxy_history.specs.Part.{Past, Part, is_same, is_of, is_host}
use Rattle.proxy_history.specs.Past.{past}
use Rattle.proxy_history.specs.Replies.{replies_from, reply_by}
use Rattle.proxy_history.specs.Waiting.{waiting_parts, waits, sent_to, flying_count}
use Rattle.proxy_history.specs.Value.{value_of, value_or, value_at, or_lost, reply_to, upstream_failure}
use Rattle.proxy_history.specs.Cause.{own_cause}
use Rattle.proxy_history.specs.Laws.{AreApart}
use Rattle.proxy_history.specs.declared.answer.Answer.{Answer}
use Rattle.proxy_history.specs.declared.event.Kind.{Kind}
use Rattle.proxy_history.specs.declared.event.Event.TheVariants.{Answered, Failed}
use Rattle.proxy_history.proofs.CallerLemmas.{is_same-apart, own_cause-answered as is_current, AreApart-sent as none_twice, is_same-sym_false as is_other_sym, waits-true as waits_parts, AreOfPast, AreApart-filter as apart_filter, is_same-self as is_same_self, AreOfPast-parts as are_of_past, AreInOrder-parts as parts_are_in_order, flying-answered as some_fly, Contains-sent as sent_parts_arrived}
use Rattle.proxy_core.proofs.parts.AreApartLemmas.{apart_drop, apart_append, behind_unfound}

-- WHO HAS NO REPLY YET

-- The part belongs to the host's present epoch, and no reply to it has come.
pub record IsUnanswered (x : Past) (h : ℕ) (p : Part) : Type 0 where
  pub no_local : p.local ≡ None
  pub host_is : p.host ≡ Some h
  pub epoch_is : p.epoch ≡ epoch h x.steps
  pub no_reply : reply_to p h x ≡ None

none_there : {X : Type 0} (o : Option X) → is_none o ≡ true → o ≡ None
none_there None e = refl
none_there (Some v) e = absurd cc

host_there : (h : ℕ) (o : Option ℕ) → is_host h o ≡ true → o ≡ Some h
host_there h None e = absurd cc
host_there h (Some k) e = ap Some (eqb-true k h e)

pub of_pipe : (h e : ℕ) (q : Part) → is_of h e q ≡ true → (q.host ≡ Some h) × (q.epoch ≡ e) × (q.local ≡ None)
of_pipe h e q t =
    let a = and_parts (is_host h q.host && (q.epoch == e)) (is_none q.local) t in
    let b = and_parts (is_host h q.host) (q.epoch == e) a.0 in
    (host_there h q.host b.0, eqb-true q.epoch e b.1, none_there q.local a.1)

is_host_self : (h : ℕ) (o : Option ℕ) → o ≡ Some h → is_host h o ≡ true
is_host_self h o e = ap (is_host h) e ∙ eq-eqb h h refl

from_pipe : (h e : ℕ) (q : Part) → q.host ≡ Some h → q.epoch ≡ e → q.local ≡ None → is_of h e q ≡ true
from_pipe h e q a b c = and_from _ _ (and_from _ _ (is_host_self h q.host a) (eq-eqb q.epoch e b)) (ap is_none c)

-- the value of a part that has a host and got none at once
pub value-of_host : (x : Past) (h : ℕ) (p : Part) → p.local ≡ None → p.host ≡ Some h → value_of x p ≡ or_lost (nat_lt p.epoch (epoch h x.steps)) (reply_to p h x)
value-of_host x h p l o = ap (λ z. value_or z (value_at x p p.host)) l ∙ ap (value_at x p) o

pub unanswered_has_none : (x : Past) (h : ℕ) (p : Part) → IsUnanswered x h p → value_of x p ≡ None
unanswered_has_none x h p u =
    value-of_host x h p u.no_local u.host_is
    ∙ ap (λ z. or_lost z (reply_to p h x)) (le-ltb p.epoch (epoch h x.steps) (omega (arith, u.epoch_is)))
    ∙ ap (or_lost false) u.no_reply

-- THE PARTS THAT FLY AND WAIT

-- those that were sent to the host in its epoch and have no reply
abbrev pub in_flight : ℕ → Past → List Part
in_flight h x = drop (length (replies_from h (epoch h x.steps) x.steps)) (sent_to h (epoch h x.steps) x)

-- with these all that wait: those that a fault of the host would lose
abbrev pub at_host : ℕ → Past → List Part
at_host h x = in_flight h x ++ waiting_parts h x

not_found : (x : Past) (h e : ℕ) (p : Part) → p.epoch ≡ e → find (λ (r : Part × Tree). is_same p r.0) (zip (sent_to h e x) (replies_from h e x.steps)) ≡ None → reply_to p h x ≡ None
not_found x h e p i n =
    ap (λ z. option_map (λ (r : Part × Tree). r.1) (find (λ (r : Part × Tree). is_same p r.0) (zip (sent_to h z x) (replies_from h z x.steps)))) i
    ∙ ap (option_map (λ (r : Part × Tree). r.1)) n

pub flight_was_sent : (h : ℕ) (x : Past) (p : Part) → Contains (in_flight h x) p → Contains (sent_to h (epoch h x.steps) x) p
flight_was_sent h x p i = Contains-drop (length (replies_from h (epoch h x.steps) x.steps)) (sent_to h (epoch h x.steps) x) p i

-- who flies has no reply
pub flight_is_unanswered : (h : ℕ) (x : Past) (p : Part) → AreApart x.sent → Contains (in_flight h x) p → IsUnanswered x h p
flight_is_unanswered h x p a i =
    let e = epoch h x.steps in
    let (host_is, epoch_is, no_local) = of_pipe h e p (filter-passes (is_of h e) x.sent p (flight_was_sent h x p i)) in
    record {
      no_local = no_local;
      host_is = host_is;
      epoch_is = epoch_is;
      no_reply = not_found x h e p epoch_is (behind_unfound (sent_to h e x) (replies_from h e x.steps) p (apart_filter (is_of h e) x.sent a) i);
    }

-- who waits has none
pub waiting_is_unanswered : (h : ℕ) (x : Past) (p : Part) → Contains (waiting_parts h x) p → IsUnanswered x h p
waiting_is_unanswered h x p i =
    let e = epoch h x.steps in
    let w = waits_parts h x p (filter-passes (waits h x) x.parts p i) in
    let (host_is, epoch_is, no_local) = of_pipe h e p w.0 in
    record {
      no_local = no_local;
      host_is = host_is;
      epoch_is = epoch_is;
      no_reply = not_found x h e p epoch_is (find-zip_none (is_same p) (sent_to h e x) (replies_from h e x.steps) (list_any-filter (is_same p) (is_of h e) x.sent w.1));
    }

pub at_host_is_unanswered : (h : ℕ) (x : Past) (p : Part) → AreApart x.sent → Contains (at_host h x) p → IsUnanswered x h p
at_host_is_unanswered h x p a i = elim (Contains-append_cases (in_flight h x) (waiting_parts h x) p i) [
  | inl flies ↦ flight_is_unanswered h x p a flies
  | inr waits ↦ waiting_is_unanswered h x p waits
]

-- they have arrived
pub flight_arrived : (S : Setting) (H : History) (h : ℕ) (p : Part) → Contains (in_flight h (past S H)) p → Contains (past S H).parts p
flight_arrived S H h p i = sent_parts_arrived S H p (Contains-filter (is_of h (epoch h H)) (past S H).sent p (flight_was_sent h (past S H) p i))

pub at_host_arrived : (S : Setting) (H : History) (h : ℕ) (p : Part) → Contains (at_host h (past S H)) p → Contains (past S H).parts p
at_host_arrived S H h p i = elim (Contains-append_cases (in_flight h (past S H)) (waiting_parts h (past S H)) p i) [
  | inl flies ↦ flight_arrived S H h p flies
  | inr wait ↦ Contains-filter (waits h (past S H)) (past S H).parts p wait
]

pub flight_apart : (h : ℕ) (x : Past) → AreApart x.sent → AreApart (in_flight h x)
flight_apart h x a = apart_drop (length (replies_from h (epoch h x.steps) x.steps)) (sent_to h (epoch h x.steps) x) (apart_filter (is_of h (epoch h x.steps)) x.sent a)

-- and no two of them are the same
pub at_host_apart : (h : ℕ) (x : Past) → AreApart x.sent → AreApart x.parts → AreApart (at_host h x)
at_host_apart h x a b = apart_append (in_flight h x) (waiting_parts h x) (flight_apart h x a) (apart_filter (waits h x) x.parts b) (λ p q i j.
    let sent : Contains x.sent p = Contains-filter (is_of h (epoch h x.steps)) x.sent p (flight_was_sent h x p i) in
    let w = waits_parts h x q (filter-passes (waits h x) x.parts q j) in
    is_other_sym q p (list_any-false (is_same q) x.sent p w.1 sent))

-- AN ANSWER

-- the reply to a part in these lists
abbrev looked_up : Part → List Part → List Tree → Option Tree
looked_up q ps vs = option_map (λ (r : Part × Tree). r.1) (find (λ (r : Part × Tree). is_same q r.0) (zip ps vs))

alone : (q p : Part) (v : Tree) (rest : List Part) → looked_up q (p ∷ rest) (v ∷ []) ≡ (if is_same q p then Some v else None)
alone q p v [] = elim (cases_Bool (is_same q p)) [ inl t ↦ rw t refl | inr n ↦ rw n refl ]
alone q p v (r ∷ rest) = elim (cases_Bool (is_same q p)) [ inl t ↦ rw t refl | inr n ↦ rw n refl ]

-- one reply more
one_reply_more : (q p : Part) (v : Tree) (ps rest : List Part) (vs : List Tree) → drop (length vs) ps ≡ p ∷ rest
    → looked_up q ps (vs ++ v ∷ []) ≡ value_or (looked_up q ps vs) (if is_same q p then Some v else None)
one_reply_more q p v [] rest [] e = absurd (cc e)
one_reply_more q p v [] rest (w ∷ vs) e = absurd (cc e)
one_reply_more q p v (r ∷ ps) rest [] e = ap (λ z. looked_up q z (v ∷ [])) e ∙ alone q p v rest
one_reply_more q p v (r ∷ ps) rest (w ∷ vs) e = elim (cases_Bool (is_same q r)) [
  | inl t ↦ rw t refl
  | inr n ↦ rw n (one_reply_more q p v ps rest vs e)
]

value_or-none : (o : Option Tree) → value_or o None ≡ o
value_or-none None = refl
value_or-none (Some v) = refl

-- where a reply is accepted some part flies, the oldest first
pub oldest_flies : (S : Setting) (H : History) (host e t : ℕ) (value : Value) → own_cause S (past S H) (Answered host e value t) ≡ None
    → (p : Part) × (rest : List Part) × (in_flight host (past S H) ≡ p ∷ rest)
oldest_flies S H host e t value none = some_one (in_flight host (past S H)) refl
  where
    some_one : (ps : List Part) → in_flight host (past S H) ≡ ps → (p : Part) × (rest : List Part) × (ps ≡ p ∷ rest)
    some_one [] i =
        let x = past S H in
        let n : 0 < flying_count host x = some_fly S x host e t value none in
        absurd (omega (arith, n, ap length i, length-drop (length (replies_from host (epoch host H) H)) (sent_to host (epoch host H) x)))
    some_one (p ∷ rest) i = (p, rest, refl)

module _ (S : Setting) (H : History) (pass host e t : ℕ) (value : Value) (answer : Answer) (none : own_cause S (past S H) (Answered host e value t) ≡ None) where
  abbrev answered_step : Step
  answered_step = record { pass = pass; event = Answered host e value t; answer = answer }

  module _ (p : Part) (rest : List Part) (flies : in_flight host (past S H) ≡ p ∷ rest) where
    -- the reply to the oldest, and else as it was
    reply_after : (q : Part) (h : ℕ) → is_same q p ≡ false → reply_to q h (past S (answered_step ∷ H)) ≡ reply_to q h (past S H)
    reply_after q h n =
        let x = past S H in
        ap (λ z. looked_up q (filter (is_of h q.epoch) z) (replies_from h q.epoch H ++ reply_by h q.epoch (Answered host e value t))) (append-nil x.sent)
        ∙ by_pipe (cases_Bool ((host == h) && (e == q.epoch)))
      where
        by_pipe : (((host == h) && (e == q.epoch)) ≡ true) ⊎ (((host == h) && (e == q.epoch)) ≡ false)
            → looked_up q (sent_to h q.epoch (past S H)) (replies_from h q.epoch H ++ reply_by h q.epoch (Answered host e value t)) ≡ reply_to q h (past S H)
        by_pipe (inr f) = rw (f, append-nil (replies_from h q.epoch H)) refl
        by_pipe (inl i) =
            let x = past S H in
            let a = and_parts (host == h) (e == q.epoch) i in
            let host_is : host ≡ h = eqb-true host h a.0 in
            let now : epoch host H ≡ q.epoch = sym (is_current S x host e t value none) ∙ eqb-true e q.epoch a.1 in
            let there : drop (length (replies_from h q.epoch H)) (sent_to h q.epoch x) ≡ p ∷ rest =
            subst (λ (z : ℕ). drop (length (replies_from z q.epoch H)) (sent_to z q.epoch x) ≡ p ∷ rest) host_is
            (subst (λ (z : ℕ). drop (length (replies_from host z H)) (sent_to host z x) ≡ p ∷ rest) now flies) in
            let one : reply_by h q.epoch (Answered host e value t) ≡ tree_of value ∷ [] = rw i refl in
            ap (λ z. looked_up q (sent_to h q.epoch x) (replies_from h q.epoch H ++ z)) one
            ∙ one_reply_more q p (tree_of value) (sent_to h q.epoch x) rest (replies_from h q.epoch H) there
            ∙ ap (λ (b : Bool). value_or (reply_to q h x) (if b then Some (tree_of value) else None)) n
            ∙ value_or-none (reply_to q h x)

    reply_to_oldest : reply_to p host (past S (answered_step ∷ H)) ≡ Some (tree_of value)
    reply_to_oldest =
        let x = past S H in
        let u = flight_is_unanswered host x p (none_twice S H) (subst (λ (z : List Part). Contains z p) (sym flies) (Contains-first p rest)) in
        let now : p.epoch ≡ epoch host H = u.epoch_is in
        let there : drop (length (replies_from host p.epoch H)) (sent_to host p.epoch x) ≡ p ∷ rest =
        subst (λ (z : ℕ). drop (length (replies_from host z H)) (sent_to host z x) ≡ p ∷ rest) (sym now) flies in
        let this : ((host == host) && (e == p.epoch)) ≡ true = and_from _ _ (eq-eqb host host refl) (eq-eqb e p.epoch (is_current S x host e t value none ∙ sym now)) in
        let one : reply_by host p.epoch (Answered host e value t) ≡ tree_of value ∷ [] = rw this refl in
        ap (λ z. looked_up p (filter (is_of host p.epoch) z) (replies_from host p.epoch H ++ reply_by host p.epoch (Answered host e value t))) (append-nil x.sent)
        ∙ ap (λ z. looked_up p (sent_to host p.epoch x) (replies_from host p.epoch H ++ z)) one
        ∙ one_reply_more p p (tree_of value) (sent_to host p.epoch x) rest (replies_from host p.epoch H) there
        ∙ ap (λ (z : Option Tree). value_or z (if is_same p p then Some (tree_of value) else None)) u.no_reply
        ∙ ap (λ (b : Bool). if b then Some (tree_of value) else None) (is_same_self p)

    -- the oldest that flies gets the value
    pub value_of_oldest : value_of (past S (answered_step ∷ H)) p ≡ Some (tree_of value)
    value_of_oldest =
        let x' = past S (answered_step ∷ H) in
        let u = flight_is_unanswered host (past S H) p (none_twice S H) (subst (λ (z : List Part). Contains z p) (sym flies) (Contains-first p rest)) in
        value-of_host x' host p u.no_local u.host_is ∙ ap (or_lost (nat_lt p.epoch (epoch host (answered_step ∷ H)))) reply_to_oldest

    -- and the others keep theirs
    pub value_of_other : (q : Part) → is_same q p ≡ false → value_of (past S (answered_step ∷ H)) q ≡ value_of (past S H) q
    value_of_other q n = ap (value_or q.local) (by_host q.host)
      where
        by_host : (o : Option ℕ) → value_at (past S (answered_step ∷ H)) q o ≡ value_at (past S H) q o
        by_host None = refl
        by_host (Some h) = ap (or_lost (nat_lt q.epoch (epoch h H))) (reply_after q h n)

    -- of the parts that arrived, the oldest that flies has this value now, and the others have what they had
    pub values_answered : (q : Part) → Contains (past S H).parts q
        → value_of (past S (answered_step ∷ H)) q ≡ (if list_any (is_same q) (p ∷ []) then Some (tree_of value) else value_of (past S H) q)
    values_answered q i = by_part (cases_Bool (is_same q p))
      where
        by_part : (is_same q p ≡ true) ⊎ (is_same q p ≡ false)
            → value_of (past S (answered_step ∷ H)) q ≡ (if list_any (is_same q) (p ∷ []) then Some (tree_of value) else value_of (past S H) q)
        by_part (inl y) =
            let arrived = flight_arrived S H host p (subst (λ (z : List Part). Contains z p) (sym flies) (Contains-first p rest)) in
            let is : q ≡ p = is_same-apart (past S H).parts q p (parts_are_in_order S H).apart i arrived y in
            let any : list_any (is_same q) (p ∷ []) ≡ true = or_left (is_same q p) false y in
            ap (value_of (past S (answered_step ∷ H))) is ∙ value_of_oldest
            ∙ ap (λ (b : Bool). if b then Some (tree_of value) else value_of (past S H) q) (sym any)
        by_part (inr n) =
            let any : list_any (is_same q) (p ∷ []) ≡ false = ap (λ (b : Bool). b || false) n in
            value_of_other q n ∙ ap (λ (b : Bool). if b then Some (tree_of value) else value_of (past S H) q) (sym any)

-- A FAULT

of_past_at : (H : History) (ps : List Part) (p : Part) (h : ℕ) → AreOfPast H ps → Contains ps p → p.host ≡ Some h → p.epoch ≤ epoch h H
of_past_at H [] p h a i o = absurd (Contains-nil p i)
of_past_at H (q ∷ ps) p h a i o = elim (Contains-cases q ps p i) [
  | inl one ↦
      let there : is_host h q.host ≡ true = is_host_self h q.host (ap (λ (z : Part). z.host) one ∙ o) in
      omega (arith, a.0 h there, ap (λ (z : Part). z.epoch) one)
  | inr more ↦ of_past_at H ps p h a.1 more o
]

-- an open part of the host's present epoch that has no reply flies or waits
unanswered_is_at_host : (S : Setting) (H : History) (h : ℕ) (q : Part) → Contains (past S H).parts q → is_closed q.conn H ≡ false → IsUnanswered (past S H) h q
    → list_any (is_same q) (at_host h (past S H)) ≡ true
unanswered_is_at_host S H h q i o u = list_any-append (is_same q) (in_flight h (past S H)) (waiting_parts h (past S H)) ∙ by_sent (cases_Bool (list_any (is_same q) (past S H).sent))
  where
    ours : is_of h (epoch h H) q ≡ true
    ours = from_pipe h (epoch h H) q u.host_is u.epoch_is u.no_local

    not_there : find (λ (r : Part × Tree). is_same q r.0) (zip (sent_to h (epoch h H) (past S H)) (replies_from h (epoch h H) H)) ≡ None
    not_there = none_of_found (find (λ (r : Part × Tree). is_same q r.0) (zip (sent_to h (epoch h H) (past S H)) (replies_from h (epoch h H) H)))
        (subst (λ (z : ℕ). looked_up q (sent_to h z (past S H)) (replies_from h z H) ≡ None) u.epoch_is u.no_reply)
      where
        none_of_found : (r : Option (Part × Tree)) → option_map (λ (z : Part × Tree). z.1) r ≡ None → r ≡ None
        none_of_found None e = refl
        none_of_found (Some r) e = absurd (cc e)

    by_sent : (list_any (is_same q) (past S H).sent ≡ true) ⊎ (list_any (is_same q) (past S H).sent ≡ false)
        → (list_any (is_same q) (in_flight h (past S H)) || list_any (is_same q) (waiting_parts h (past S H))) ≡ true
    by_sent (inl sent) =
        let x = past S H in
        let (p, was_sent, same) = list_any-true (is_same q) x.sent sent in
        let is : q ≡ p = is_same-apart x.parts q p (parts_are_in_order S H).apart i (sent_parts_arrived S H p was_sent) same in
        let also : Contains (sent_to h (epoch h H) x) p = Contains-filter_passing (is_of h (epoch h H)) x.sent p was_sent (ap (is_of h (epoch h H)) (sym is) ∙ ours) in
        let among : list_any (is_same q) (sent_to h (epoch h H) x) ≡ true = list_any-member (is_same q) (sent_to h (epoch h H) x) p also same in
        or_left (list_any (is_same q) (in_flight h x)) (list_any (is_same q) (waiting_parts h x)) (list_any-unfound (is_same q) (sent_to h (epoch h H) x) (replies_from h (epoch h H) H) not_there among)
    by_sent (inr never) =
        let x = past S H in
        let w : waits h x q ≡ true = and_from _ _ (and_from _ _ ours (ap not never)) (ap not o) in
        or_right (list_any (is_same q) (in_flight h x)) (list_any (is_same q) (waiting_parts h x))
        (list_any-member (is_same q) (waiting_parts h x) q (Contains-filter_passing (waits h x) x.parts q i w) (is_same_self q))

module _ (S : Setting) (H : History) (pass host e t : ℕ) (kind : Kind) (answer : Answer) where
  abbrev failed_step : Step
  failed_step = record { pass = pass; event = Failed host e kind t; answer = answer }

  next_epoch : epoch host (failed_step ∷ H) ≡ epoch host H + 1
  next_epoch = rw (eq-eqb host host refl) refl

  same_epoch : (h : ℕ) → (host == h) ≡ false → epoch h (failed_step ∷ H) ≡ epoch h H
  same_epoch h n = rw n refl

  same_replies : (q : Part) (h : ℕ) → reply_to q h (past S (failed_step ∷ H)) ≡ reply_to q h (past S H)
  same_replies q h =
      let x = past S H in
      ap (λ z. looked_up q (filter (is_of h q.epoch) z) (replies_from h q.epoch H ++ [])) (append-nil x.sent) ∙ ap (looked_up q (sent_to h q.epoch x)) (append-nil (replies_from h q.epoch H))

  -- who has no reply is lost
  lost_now : (q : Part) → IsUnanswered (past S H) host q → value_of (past S (failed_step ∷ H)) q ≡ Some upstream_failure
  lost_now q u =
      value-of_host (past S (failed_step ∷ H)) host q u.no_local u.host_is
      ∙ ap (λ b. or_lost b (reply_to q host (past S (failed_step ∷ H)))) (lt-ltb q.epoch (epoch host (failed_step ∷ H)) (omega (arith, u.epoch_is, next_epoch)))
      ∙ ap (or_lost true) (same_replies q host ∙ u.no_reply)

  -- the value of a part of the host stays, but where it has no reply in the present epoch
  stays_at : (q : Part) → q.epoch ≤ epoch host H → (o : Option Tree) → reply_to q host (past S H) ≡ o → (q.epoch ≡ epoch host H → o ≡ None → ⊥)
      → or_lost (nat_lt q.epoch (epoch host (failed_step ∷ H))) o ≡ or_lost (nat_lt q.epoch (epoch host H)) o
  stays_at q l (Some v) r f = refl
  stays_at q l None r f = elim (cases_Bool (nat_lt q.epoch (epoch host H))) [
    | inl y ↦
        let m = ltb-true q.epoch (epoch host H) y in
        let still : nat_lt q.epoch (epoch host (failed_step ∷ H)) ≡ true = lt-ltb q.epoch (epoch host (failed_step ∷ H)) (omega (arith, m, next_epoch)) in
        ap (λ b. or_lost b None) still ∙ sym (ap (λ b. or_lost b None) y)
    | inr n ↦ absurd (f (omega (arith, l, ltb-false q.epoch (epoch host H) n)) refl)
  ]

  stays_by : (q : Part) (l : Option Tree) (o : Option ℕ) → q.local ≡ l → q.host ≡ o → Contains (past S H).parts q → (IsUnanswered (past S H) host q → ⊥)
      → value_or l (value_at (past S (failed_step ∷ H)) q o) ≡ value_or l (value_at (past S H) q o)
  stays_by q (Some v) o a b i n = refl
  stays_by q None None a b i n = refl
  stays_by q None (Some h) a b i n = elim (cases_Bool (host == h)) [
    | inl y ↦
        let is : host ≡ h = eqb-true host h y in
        let ours : q.host ≡ Some host = b ∙ ap Some (sym is) in
        let past_epoch : q.epoch ≤ epoch host H = of_past_at H (past S H).parts q host (are_of_past S H) i ours in
        subst (λ (z : ℕ). value_at (past S (failed_step ∷ H)) q (Some z) ≡ value_at (past S H) q (Some z)) is
        (ap (or_lost (nat_lt q.epoch (epoch host (failed_step ∷ H)))) (same_replies q host)
        ∙ stays_at q past_epoch (reply_to q host (past S H)) refl (λ now none. n (record { no_local = a; host_is = ours; epoch_is = now; no_reply = none })))
    | inr f ↦
        ap (λ z. or_lost (nat_lt q.epoch z) (reply_to q h (past S (failed_step ∷ H)))) (same_epoch h f)
        ∙ ap (or_lost (nat_lt q.epoch (epoch h H))) (same_replies q h)
  ]

  -- of the parts of open connections that arrived, those that fly to the host or wait for it are lost now, and the others have
  -- what they had
  pub values_failed : (q : Part) → Contains (past S H).parts q → is_closed q.conn H ≡ false
      → value_of (past S (failed_step ∷ H)) q ≡ (if list_any (is_same q) (at_host host (past S H)) then Some upstream_failure else value_of (past S H) q)
  values_failed q i o = by_place (cases_Bool (list_any (is_same q) (at_host host (past S H))))
    where
      by_place : (list_any (is_same q) (at_host host (past S H)) ≡ true) ⊎ (list_any (is_same q) (at_host host (past S H)) ≡ false)
          → value_of (past S (failed_step ∷ H)) q ≡ (if list_any (is_same q) (at_host host (past S H)) then Some upstream_failure else value_of (past S H) q)
      by_place (inl y) =
          let x = past S H in
          let (p, is_there, same) = list_any-true (is_same q) (at_host host x) y in
          let is : q ≡ p = is_same-apart x.parts q p (parts_are_in_order S H).apart i (at_host_arrived S H host p is_there) same in
          ap (value_of (past S (failed_step ∷ H))) is ∙ lost_now p (at_host_is_unanswered host x p (none_twice S H) is_there)
          ∙ ap (λ (b : Bool). if b then Some upstream_failure else value_of x q) (sym y)
      by_place (inr n) =
          let x = past S H in
          stays_by q q.local q.host refl refl i (λ u. both_ways (list_any (is_same q) (at_host host x)) n (unanswered_is_at_host S H host q i o u))
          ∙ ap (λ (b : Bool). if b then Some upstream_failure else value_of x q) (sym n)
