-- No two parts are the same, and none is of an epoch to come.
use Rattle.std.proofs.Common.{◌≡◌, ℕ, ◌+◌, ◌<◌, true, false, ◌==◌, ◌&&◌, List, [], ◌∷◌, ◌++◌, length, Option, Some, None, refl, ap, ◌∙◌, arith}
use Rattle.std.specs.List.{list_any}
use Rattle.std.proofs.lemmas.Bool.{and_parts, or_from, eqb-true, eq-eqb, ne_eqb, and_left, and_right, false_from_ne_true, cond-true}
use Rattle.std.proofs.lemmas.List.{append-nil, length-append}
use Rattle.std.proofs.lemmas.List.Folds.{list_any-append}
use Rattle.proxy_history.specs.Setting.{Setting}
use Rattle.splitter.specs.Plan.{Plan, here, leave, parts}
use Rattle.splitter.specs.declared.plans.PartPlan.{PartPlan}
use Rattle.proxy_history.specs.History.{plan_for, History, epoch, accepted_count, is_arrival, Step}
use Rattle.proxy_history.specs.Part.{Past, Part, is_host, is_same}
use Rattle.proxy_history.specs.Past.{past, after}
use Rattle.proxy_history.specs.Waiting.{waiting_parts, waits}
use Rattle.proxy_history.specs.Arrival.{parts_by, placed_by, parts_placed, placed_part, with_host, host_for, hostless}
use Rattle.proxy_history.specs.Laws.{AreApart}
use Rattle.proxy_history.specs.declared.answer.Answer.{Answer}
use Rattle.proxy_history.specs.declared.event.Kind.{Kind}
use Rattle.proxy_history.specs.declared.event.Event.{Event}
use Rattle.proxy_history.specs.declared.event.Event.TheVariants.{Arrived, Failed}
use Rattle.proxy_history.proofs.sending.SentOnceLemmas.{apart_with}
use Rattle.proxy_history.proofs.GrowthLemmas.{times_grows}
use Rattle.proxy_history.proofs.parts.PlacingLemmas.{AreOf, placing_are_of}
use Rattle.proxy_history.proofs.parts.FilterLemmas.{waits_parts}
use Rattle.proxy_history.proofs.outcomes.ValueLemmas.{is_of_parts}
use Rattle.proxy_history.proofs.sending.WaitingStepLemmas.{AreOfPast, none_of_next}

-- PARTS OF ONE COMMAND

abbrev AreBelow : ℕ → List Part → Type 0
AreBelow n [] = Unit {0}
AreBelow n (p ∷ ps) = (p.number < n) × AreBelow n ps

none_below : (q : Part) (ps : List Part) → AreBelow q.number ps → list_any (is_same q) ps ≡ false
none_below q [] b = refl
none_below q (p ∷ ps) b = or_from _ _ (and_right ((q.conn == p.conn) && (q.command == p.command)) _ (ne_eqb q.number p.number (λ e. omega (arith, e, b.0)))) (none_below q ps b.1)

below_with : (n : ℕ) (ps : List Part) (q : Part) → AreBelow n ps → q.number ≡ n → AreBelow (n + 1) (ps ++ q ∷ [])
below_with n [] q b e = (omega (arith, e), tt)
below_with n (p ∷ ps) q b e = (omega (arith, b.0), below_with n ps q b.1 e)

pub host_keeps_number : (x : Past) (placed : List Part) (o : Option ℕ) (p : Part) → (with_host x placed o p).number ≡ p.number
host_keeps_number x placed None p = refl
host_keeps_number x placed (Some h) p = refl

placing_apart : (S : Setting) (x : Past) (conn command : ℕ) (placed : List Part) (ps : List PartPlan) → AreApart placed → AreBelow (length placed) placed → AreApart (parts_placed S x conn command placed ps)
placing_apart S x conn command placed [] a b = a
placing_apart S x conn command placed (p ∷ ps) a b =
    let q = placed_part S x conn command placed p in
    let n : q.number ≡ length placed = host_keeps_number x placed (host_for S x p.key) (hostless conn command (length placed) p) in
    let more : length (placed ++ q ∷ []) ≡ length placed + 1 = length-append placed (q ∷ []) in
    placing_apart S x conn command (placed ++ q ∷ []) ps
    (apart_with placed q a (none_below q placed (rw (n) b)))
    (rw (more) (below_with (length placed) placed q b n))

-- PARTS OF ALL COMMANDS

abbrev pub AreEarlier : History → List Part → Type 0
AreEarlier H [] = Unit {0}
AreEarlier H (p ∷ ps) = (p.command < accepted_count p.conn H) × AreEarlier H ps

pub earlier_grows : (s : Step) (H : History) (ps : List Part) → AreEarlier H ps → AreEarlier (s ∷ H) ps
earlier_grows s H [] a = tt
earlier_grows s H (p ∷ ps) a = (omega (arith, a.0, times_grows (is_arrival p.conn) s H), earlier_grows s H ps a.1)

pub earlier_both : (H : History) (ps qs : List Part) → AreEarlier H ps → AreEarlier H qs → AreEarlier H (ps ++ qs)
earlier_both H [] qs a b = b
earlier_both H (p ∷ ps) qs a b = (a.0, earlier_both H ps qs a.1 b)

new_are_earlier : (H : History) (conn : ℕ) (ps : List Part) → AreOf conn (accepted_count conn H) ps → (s : Step) → is_arrival conn s.event ≡ true → AreEarlier (s ∷ H) ps
new_are_earlier H conn [] a s e = tt
new_are_earlier H conn (p ∷ ps) (of_conn, of_command, others) s e =
    let now : accepted_count conn (s ∷ H) ≡ accepted_count conn H + 1 = rw (e) refl in
    (omega (arith, now, of_command, ap (λ k. accepted_count k (s ∷ H)) of_conn), new_are_earlier H conn ps others s e)

none_same_of : (p : Part) (conn command : ℕ) (qs : List Part) → ((p.conn == conn) && (p.command == command)) ≡ false → AreOf conn command qs → list_any (is_same p) qs ≡ false
none_same_of p conn command [] e a = refl
none_same_of p conn command (q ∷ qs) e (of_conn, of_command, others) =
    let f : ((p.conn == q.conn) && (p.command == q.command)) ≡ false = rw (of_conn, of_command) e in
    or_from _ _ (and_left _ (p.number == q.number) f) (none_same_of p conn command qs e others)

not_new : (H : History) (conn : ℕ) (p : Part) → p.command < accepted_count p.conn H → ((p.conn == conn) && (p.command == accepted_count conn H)) ≡ false
not_new H conn p l = false_from_ne_true _ (λ t.
    let a = and_parts (p.conn == conn) (p.command == accepted_count conn H) t in
    omega (arith, l, eqb-true p.command (accepted_count conn H) a.1, ap (λ k. accepted_count k H) (eqb-true p.conn conn a.0)))

apart_both : (H : History) (conn : ℕ) (ps qs : List Part) → AreApart ps → AreEarlier H ps → AreApart qs → AreOf conn (accepted_count conn H) qs → AreApart (ps ++ qs)
apart_both H conn [] qs a e b o = b
apart_both H conn (p ∷ ps) qs a e b o = (
  list_any-append (is_same p) ps qs ∙ or_from _ _ a.0 (none_same_of p conn (accepted_count conn H) qs (not_new H conn p e.0) o),
  apart_both H conn ps qs a.1 e.1 b o,
)

pub record AreInOrder (H : History) (ps : List Part) : Type 0 where
  pub apart : AreApart ps
  pub earlier : AreEarlier H ps

placed_in_order : (S : Setting) (x : Past) (conn : ℕ) (s : Step) (p : Plan) → is_arrival conn s.event ≡ true → AreInOrder x.steps x.parts → AreInOrder (s ∷ x.steps) (x.parts ++ placed_by S x conn p)
placed_in_order S x conn s (parts how list) e a =
    let new = placing_are_of S x conn (accepted_count conn x.steps) [] list tt in
    record {
      apart = apart_both x.steps conn x.parts _ a.apart a.earlier (placing_apart S x conn (accepted_count conn x.steps) [] list tt tt) new;
      earlier = earlier_both (s ∷ x.steps) x.parts _ (earlier_grows s x.steps x.parts a.earlier) (new_are_earlier x.steps conn _ new s e);
    }
placed_in_order S x conn s (here name value) e a = rw (append-nil x.parts) (record { apart = a.apart; earlier = earlier_grows s x.steps x.parts a.earlier })
placed_in_order S x conn s (leave name value) e a = rw (append-nil x.parts) (record { apart = a.apart; earlier = earlier_grows s x.steps x.parts a.earlier })

as_before : (x : Past) (s : Step) → AreInOrder x.steps x.parts → AreInOrder (s ∷ x.steps) (x.parts ++ [])
as_before x s a = rw (append-nil x.parts) (record { apart = a.apart; earlier = earlier_grows s x.steps x.parts a.earlier })

in_order_after : (S : Setting) (x : Past) (pass : ℕ) (answer : Answer) (event : Event) → AreInOrder x.steps x.parts
    → AreInOrder (record { pass = pass; event = event; answer = answer } ∷ x.steps) (x.parts ++ parts_by S x event)
in_order_after S x pass answer (Arrived conn request) a = placed_in_order S x conn _ (plan_for request) (eq-eqb conn conn refl) a
in_order_after S x pass answer _ a = as_before x _ a

pub parts_are_in_order : (S : Setting) (H : History) → AreInOrder H (past S H).parts
parts_are_in_order S [] = record { apart = tt; earlier = tt }
parts_are_in_order S (s ∷ before) = in_order_after S (past S before) s.pass s.answer s.event (parts_are_in_order S before)

-- after a fault nothing waits
pub after_failed : (S : Setting) (h pass e t : ℕ) (kind : Kind) (answer : Answer) (x : Past) → AreOfPast x.steps x.parts
    → waiting_parts h (after S (record { pass = pass; event = Failed h e kind t; answer = answer }) x) ≡ []
after_failed S h pass e t kind answer x a =
    rw (append-nil x.parts) (none_of_next h x x.parts _ waits_next a)
  where
    next : epoch h (record { pass = pass; event = Failed h e kind t; answer = answer } ∷ x.steps) ≡ epoch h x.steps + 1
    next = cond-true (h == h) _ _ (eq-eqb h h refl)

    waits_next : (q : Part) → waits h (after S (record { pass = pass; event = Failed h e kind t; answer = answer }) x) q ≡ true → (is_host h q.host ≡ true) × (epoch h x.steps < q.epoch)
    waits_next q w =
        let a = is_of_parts h _ q (waits_parts h (after S (record { pass = pass; event = Failed h e kind t; answer = answer }) x) q w).0 in
        (a.0, omega (arith, a.1, next))
