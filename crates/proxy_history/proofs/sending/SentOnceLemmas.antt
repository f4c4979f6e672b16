-- No part is sent twice: who is sent waits, and who waits was not sent.
use Rattle.std.proofs.Common.{◌≡◌, ℕ, true, false, ◌==◌, ◌&&◌, List, [], ◌∷◌, ◌++◌, refl, sym, ◌∙◌, inl, inr}
use Rattle.std.specs.List.{list_any}
use Rattle.std.proofs.lemmas.Bool.{and_parts, or_parts, or_from, cases_Bool, eqb-true, eq-eqb, both_ways}
use Rattle.std.proofs.lemmas.List.{append-nil}
use Rattle.std.proofs.lemmas.List.Folds.{list_any-append}
use Rattle.proxy_history.specs.Setting.{Setting}
use Rattle.proxy_history.specs.History.{History}
use Rattle.proxy_history.specs.Part.{Past, Part, is_same}
use Rattle.proxy_history.specs.Past.{past}
use Rattle.proxy_history.specs.Waiting.{waiting_parts, waits, first, sent_by}
use Rattle.proxy_history.specs.Laws.{AreApart}
use Rattle.proxy_history.proofs.parts.FilterLemmas.{AreGood, filter_is_good, waits_parts}
use Rattle.proxy_history.specs.declared.event.Event.{Event}
use Rattle.proxy_history.specs.declared.event.Event.TheVariants.{Taken}

pub eqb_sym : (a b : ℕ) → (a == b) ≡ true → (b == a) ≡ true
eqb_sym a b e = eq-eqb b a (sym (eqb-true a b e))

pub is_same_sym : (p q : Part) → is_same p q ≡ true → is_same q p ≡ true
is_same_sym p q e =
    let x = and_parts ((p.conn == q.conn) && (p.command == q.command)) (p.number == q.number) e in
    let y = and_parts (p.conn == q.conn) (p.command == q.command) x.0 in
    rw (eqb_sym p.conn q.conn y.0, eqb_sym p.command q.command y.1, eqb_sym p.number q.number x.1) refl

pub is_same_trans : (p q r : Part) → is_same p q ≡ true → is_same q r ≡ true → is_same p r ≡ true
is_same_trans p q r e f =
    let x = and_parts ((p.conn == q.conn) && (p.command == q.command)) (p.number == q.number) e in
    let y = and_parts (p.conn == q.conn) (p.command == q.command) x.0 in
    rw (eqb-true p.conn q.conn y.0, eqb-true p.command q.command y.1, eqb-true p.number q.number x.1) f

pub is_other_sym : (p q : Part) → is_same p q ≡ false → is_same q p ≡ false
is_other_sym p q e = elim (cases_Bool (is_same q p)) [ inl t ↦ absurd (both_ways (is_same p q) e (is_same_sym q p t)) | inr f ↦ f ]

-- one more that is none of them
pub apart_with : (ps : List Part) (q : Part) → AreApart ps → list_any (is_same q) ps ≡ false → AreApart (ps ++ q ∷ [])
apart_with [] q a e = (refl, tt)
apart_with (p ∷ ps) q a e =
    let x = or_parts (is_same q p) (list_any (is_same q) ps) e in
    (list_any-append (is_same p) ps (q ∷ []) ∙ or_from _ _ a.0 (or_from _ _ (is_other_sym q p x.0) refl), apart_with ps q a.1 x.1)

apart_with_first : (h : ℕ) (x : Past) (ps : List Part) → AreApart x.sent → AreGood (waits h x) ps → AreApart (x.sent ++ first ps)
apart_with_first h x [] a g = rw (append-nil x.sent) a
apart_with_first h x (p ∷ ps) a g = apart_with x.sent p a (waits_parts h x p g.0).1

apart_after : (x : Past) (event : Event) → AreApart x.sent → AreApart (x.sent ++ sent_by x event)
apart_after x (Taken host) a = apart_with_first host x (waiting_parts host x) a (filter_is_good (waits host x) x.parts)
apart_after x _ a = rw (append-nil x.sent) a

pub none_twice : (S : Setting) (H : History) → AreApart (past S H).sent
none_twice S [] = tt
none_twice S (s ∷ before) = apart_after (past S before) s.event (none_twice S before)
