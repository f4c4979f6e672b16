-- How the waiting parts of a host change with a step: what a queue of the program has to do.
use Rattle.std.proofs.Common.{◌≡◌, ℕ, ◌<◌, ◌≤◌, Bool, true, false, not, ◌==◌, ◌&&◌, ◌||◌, List, [], ◌∷◌, ◌++◌, filter, refl, ap, ◌∙◌, inl, inr, arith}
use Rattle.std.specs.List.{list_any}
use Rattle.std.proofs.lemmas.Bool.{or_parts, cases_Bool, eq-eqb, false_from_ne_true}
use Rattle.std.proofs.lemmas.List.{append-nil}
use Rattle.std.proofs.lemmas.List.Folds.{list_any-append}
use Rattle.list_lemmas.proofs.CallerLemmas.{filter-same, filter-both, list_any-filter}
use Rattle.proxy_history.specs.Setting.{Setting}
use Rattle.proxy_history.specs.History.{History, epoch, is_closed}
use Rattle.proxy_history.specs.Part.{Past, Part, is_of, is_host, is_same}
use Rattle.proxy_history.specs.Past.{after}
use Rattle.proxy_history.specs.Waiting.{waiting_parts, waits}
use Rattle.proxy_history.specs.Laws.{AreApart}
use Rattle.proxy_history.specs.declared.answer.Answer.{Answer}
use Rattle.proxy_history.specs.declared.event.Event.TheVariants.{Taken, Closed}
use Rattle.proxy_history.proofs.sending.SentOnceLemmas.{is_other_sym}

-- FILTERS

-- parts that are apart stay so
pub apart_filter : (f : Part → Bool) (ps : List Part) → AreApart ps → AreApart (filter f ps)
apart_filter f [] a = tt
apart_filter f (p ∷ ps) a = elim (cases_Bool (f p)) [
  | inl t ↦ rw (t) (list_any-filter (is_same p) f ps a.0, apart_filter f ps a.1)
  | inr e ↦ rw (e) (apart_filter f ps a.1)
]

-- who is none of these stays
pub all_stay : (p : Part) (ps : List Part) → list_any (is_same p) ps ≡ false → filter (λ q. not (is_same q p)) ps ≡ ps
all_stay p [] e = refl
all_stay p (q ∷ ps) e =
    let a = or_parts (is_same p q) (list_any (is_same p) ps) e in
    rw (is_other_sym p q a.0) (ap (λ r. q ∷ r) (all_stay p ps a.1))

pub is_same_self : (p : Part) → is_same p p ≡ true
is_same_self p = rw (eq-eqb p.conn p.conn refl, eq-eqb p.command p.command refl, eq-eqb p.number p.number refl) refl

-- EVENTS THAT TAKE

bools : (a b c d : Bool) → (a && not (b || (c || false)) && d) ≡ ((a && not b && d) && not c)
bools true true c d = refl
bools true false true true = refl
bools true false true false = refl
bools true false false true = refl
bools true false false false = refl
bools false b c d = refl

pub taken_waits : (h : ℕ) (x : Past) (p q : Part) → waits h (record x { sent = x.sent ++ p ∷ [] }) q ≡ (waits h x q && not (is_same q p))
taken_waits h x p q = rw (list_any-append (is_same q) x.sent (p ∷ [])) (bools (is_of h (epoch h x.steps) q) (list_any (is_same q) x.sent) (is_same q p) (not (is_closed q.conn x.steps)))

without_first : (p : Part) (ps : List Part) → AreApart (p ∷ ps) → filter (λ q. not (is_same q p)) (p ∷ ps) ≡ ps
without_first p ps a = rw (is_same_self p) (all_stay p ps a.0)

-- the one that is taken leaves, and the others wait on
pub taken : (h : ℕ) (x : Past) (p : Part) (ps : List Part) → AreApart x.parts → waiting_parts h x ≡ p ∷ ps → waiting_parts h (record x { sent = x.sent ++ p ∷ [] }) ≡ ps
taken h x p ps a e =
    let apart : AreApart (p ∷ ps) = rw e at (apart_filter (waits h x) x.parts a) in
    filter-same _ (λ q. waits h x q && not (is_same q p)) (taken_waits h x p) x.parts
    ∙ filter-both (waits h x) (λ q. not (is_same q p)) x.parts
    ∙ ap (filter (λ q. not (is_same q p))) e ∙ without_first p ps apart

pub after_taken : (S : Setting) (h pass : ℕ) (answer : Answer) (x : Past) (p : Part) (ps : List Part) → AreApart x.parts → waiting_parts h x ≡ p ∷ ps
    → waiting_parts h (after S (record { pass = pass; event = Taken h; answer = answer }) x) ≡ ps
after_taken S h pass answer x p ps a e = rw (append-nil x.parts, e) (taken h x p ps a e)

-- EVENTS THAT END

bools3 : (a b c d : Bool) → (a && b && not (c || d)) ≡ ((a && b && not d) && not c)
bools3 true true true true = refl
bools3 true true true false = refl
bools3 true true false true = refl
bools3 true true false false = refl
bools3 true false c d = refl
bools3 false b c d = refl

-- those of a closed connection leave
pub after_closed : (S : Setting) (h pass c : ℕ) (answer : Answer) (x : Past)
    → waiting_parts h (after S (record { pass = pass; event = Closed c; answer = answer }) x) ≡ filter (λ q. not (c == q.conn)) (waiting_parts h x)
after_closed S h pass c answer x =
    rw (append-nil x.parts, append-nil x.sent)
    (filter-same _ (λ q. waits h x q && not (c == q.conn))
    (λ q. bools3 (is_of h (epoch h x.steps) q) (not (list_any (is_same q) x.sent)) (c == q.conn) (is_closed q.conn x.steps)) x.parts
    ∙ filter-both (waits h x) (λ q. not (c == q.conn)) x.parts)

-- no part is of an epoch to come
abbrev pub AreOfPast : History → List Part → Type 0
AreOfPast H [] = Unit {0}
AreOfPast H (p ∷ ps) = ((h : ℕ) → is_host h p.host ≡ true → p.epoch ≤ epoch h H) × AreOfPast H ps

pub none_of_next : (h : ℕ) (x : Past) (ps : List Part) (f : Part → Bool) → ((q : Part) → f q ≡ true → (is_host h q.host ≡ true) × (epoch h x.steps < q.epoch)) → AreOfPast x.steps ps → filter f ps ≡ []
none_of_next h x [] f g a = refl
none_of_next h x (p ∷ ps) f g a =
    let no : f p ≡ false = false_from_ne_true (f p) (λ t. omega (arith, (g p t).1, a.0 h (g p t).0)) in
    rw (no) (none_of_next h x ps f g a.1)
