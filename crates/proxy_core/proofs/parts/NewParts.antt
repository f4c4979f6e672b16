-- The parts of a command that has just arrived: none of them was sent, and their values are those that they got at once.
use Rattle.std.proofs.Common.{◌≡◌, ℕ, ◌<◌, Bool, false, nat_lt, ◌==◌, ◌&&◌, List, [], ◌∷◌, ◌++◌, length, map, filter, Option, Some, None, refl, sym, ap, ◌∙◌, inl, inr, arith}
use Rattle.std.specs.Prelude.{option_map}
use Rattle.std.specs.List.{find, zip, list_any}
use Rattle.std.proofs.lemmas.Bool.{cases_Bool, and_left, and_parts, or_parts, or_from, eqb-true, ltb-true, false_from_ne_true}
use Rattle.std.proofs.lemmas.List.Elements.{filter-append}
use Rattle.list_lemmas.proofs.CallerLemmas.{list_any-filter}
use Rattle.resp_core.specs.Tree.{Tree}
use Rattle.splitter.specs.declared.plans.PartPlan.{PartPlan}
use Rattle.proxy_history.specs.Setting.{Setting}
use Rattle.proxy_history.specs.History.{History, Step, accepted_count, epoch}
use Rattle.proxy_history.specs.Replies.{replies_from}
use Rattle.proxy_history.specs.Part.{Part, Past, is_same, is_of}
use Rattle.proxy_history.specs.Past.{past, after}
use Rattle.proxy_history.specs.Waiting.{waiting_parts, waits, first, sent_by, sent_to}
use Rattle.proxy_history.specs.Arrival.{parts_by, parts_placed, placed_part, with_host, host_for, hostless}
use Rattle.proxy_history.specs.Value.{reply_to, value_at, value_of, value_or}
use Rattle.proxy_history.specs.Outcome.{parts_of, is_part_of}
use Rattle.proxy_history.specs.declared.event.Event.{Event}
use Rattle.proxy_history.specs.declared.event.Event.TheVariants.{Taken}
use Rattle.proxy_history.proofs.CallerLemmas.{AreOf, AreEarlier, AreEarlier-cons as earlier_grows, AreEarlier-append as earlier_both, AreInOrder-parts as parts_are_in_order, filter-AreOf as all_of, AreOf-placing_first as are_placed, parts_of-not_yet as not_yet}

-- WHAT WAS SENT IS OF COMMANDS THAT HAD ARRIVED

earlier_filter : (H : History) (f : Part → Bool) (ps : List Part) → AreEarlier H ps → AreEarlier H (filter f ps)
earlier_filter H f [] a = tt
earlier_filter H f (p ∷ ps) a = elim (cases_Bool (f p)) [
  | inl t ↦ rw t (a.0, earlier_filter H f ps a.1)
  | inr n ↦ rw n (earlier_filter H f ps a.1)
]

earlier_first : (H : History) (ps : List Part) → AreEarlier H ps → AreEarlier H (first ps)
earlier_first H [] a = tt
earlier_first H (p ∷ ps) a = (a.0, tt)

sent_by_earlier : (x : Past) (event : Event) → AreEarlier x.steps x.parts → AreEarlier x.steps (sent_by x event)
sent_by_earlier x (Taken host) a = earlier_first x.steps (waiting_parts host x) (earlier_filter x.steps (waits host x) x.parts a)
sent_by_earlier x _ a = tt

pub sent_earlier : (S : Setting) (H : History) → AreEarlier H (past S H).sent
sent_earlier S [] = tt
sent_earlier S (s ∷ H) =
    let x = past S H in
    earlier_both (s ∷ H) x.sent (sent_by x s.event) (earlier_grows s H x.sent (sent_earlier S H))
    (earlier_grows s H (sent_by x s.event) (sent_by_earlier x s.event (parts_are_in_order S H).earlier))

other_command : (H : History) (p q : Part) → q.command < accepted_count q.conn H → p.command ≡ accepted_count p.conn H → ((p.conn == q.conn) && (p.command == q.command)) ≡ false
other_command H p q l e = false_from_ne_true _ (λ t.
    let a = and_parts (p.conn == q.conn) (p.command == q.command) t in
    omega (arith, l, e, eqb-true p.command q.command a.1, ap (λ k. accepted_count k H) (eqb-true p.conn q.conn a.0)))

-- a part of the next command is none of earlier ones
pub none_earlier : (H : History) (p : Part) (ps : List Part) → p.command ≡ accepted_count p.conn H → AreEarlier H ps → list_any (is_same p) ps ≡ false
none_earlier H p [] e a = refl
none_earlier H p (q ∷ ps) e a = or_from _ _ (and_left _ (p.number == q.number) (other_command H p q a.0 e)) (none_earlier H p ps e a.1)

-- a part of the next command was not sent
pub not_sent : (S : Setting) (H : History) (p : Part) → p.command ≡ accepted_count p.conn H → list_any (is_same p) (past S H).sent ≡ false
not_sent S H p e = none_earlier H p (past S H).sent e (sent_earlier S H)

-- THEIR EPOCHS

-- each is of the present epoch of its host
abbrev pub AreNow : History → List Part → Type 0
AreNow H [] = Unit {0}
AreNow H (p ∷ ps) = ((h : ℕ) → p.host ≡ Some h → p.epoch ≡ epoch h H) × AreNow H ps

pub now_both : (H : History) (ps : List Part) (q : Part) → AreNow H ps → ((h : ℕ) → q.host ≡ Some h → q.epoch ≡ epoch h H) → AreNow H (ps ++ q ∷ [])
now_both H [] q a b = (b, tt)
now_both H (p ∷ ps) q a b = (a.0, now_both H ps q a.1 b)

pub part_now : (x : Past) (placed : List Part) (o : Option ℕ) (p : Part) → p.host ≡ None → (h : ℕ) → (with_host x placed o p).host ≡ Some h → (with_host x placed o p).epoch ≡ epoch h x.steps
part_now x placed None p n h e = absurd cc
part_now x placed (Some k) p n h e = let same : k ≡ h = cc in ap (λ j. epoch j x.steps) same

pub placing_are_now : (S : Setting) (x : Past) (conn command : ℕ) (placed : List Part) (ps : List PartPlan) → AreNow x.steps placed → AreNow x.steps (parts_placed S x conn command placed ps)
placing_are_now S x conn command placed [] a = a
placing_are_now S x conn command placed (p ∷ ps) a =
    placing_are_now S x conn command (placed ++ placed_part S x conn command placed p ∷ []) ps
    (now_both x.steps placed (placed_part S x conn command placed p) a
    (part_now x placed (host_for S x p.key) (hostless conn command (length placed) p) refl))

-- THEIR VALUES

find_none : (p : Part) (ps : List Part) (ts : List Tree) → list_any (is_same p) ps ≡ false → find (λ r. is_same p r.0) (zip ps ts) ≡ None
find_none p [] ts e = refl
find_none p (q ∷ ps) [] e = refl
find_none p (q ∷ ps) (t ∷ ts) e =
    let a = or_parts (is_same p q) (list_any (is_same p) ps) e in
    rw a.0 (find_none p ps ts a.1)

no_reply : (x : Past) (h : ℕ) (p : Part) → list_any (is_same p) x.sent ≡ false → reply_to p h x ≡ None
no_reply x h p e = ap (option_map (λ r. r.1)) (find_none p (sent_to h p.epoch x) (replies_from h p.epoch x.steps) (list_any-filter (is_same p) (is_of h p.epoch) x.sent e))

no_value : (x : Past) (p : Part) (o : Option ℕ) → list_any (is_same p) x.sent ≡ false → ((h : ℕ) → o ≡ Some h → p.epoch ≡ epoch h x.steps) → value_at x p o ≡ None
no_value x p None e now = refl
no_value x p (Some h) e now =
    let present : nat_lt p.epoch (epoch h x.steps) ≡ false = false_from_ne_true _ (λ t. omega (arith, ltb-true p.epoch (epoch h x.steps) t, now h refl)) in
    rw (present, no_reply x h p e) refl

-- a part that wasn't sent and is of the present epoch has the value that it got at once
pub value-local : (x : Past) (p : Part) → list_any (is_same p) x.sent ≡ false → ((h : ℕ) → p.host ≡ Some h → p.epoch ≡ epoch h x.steps) → value_of x p ≡ p.local
value-local x p e now = ap (value_or p.local) (no_value x p p.host e now) ∙ by_local p.local
  where
    by_local : (o : Option Tree) → value_or o None ≡ o
    by_local None = refl
    by_local (Some v) = refl

new_values : (S : Setting) (H : History) (conn : ℕ) (ps : List Part) → AreOf conn (accepted_count conn H) ps → AreNow H ps → map (value_of (past S H)) ps ≡ map (λ (p : Part). p.local) ps
new_values S H conn [] a now = refl
new_values S H conn (p ∷ ps) (of_conn, of_command, others) now =
    let next : p.command ≡ accepted_count p.conn H = of_command ∙ ap (λ z. accepted_count z H) (sym of_conn) in
    rw (value-local (past S H) p (not_sent S H p next) now.0, new_values S H conn ps others now.1) refl

-- the values of a command's parts as it arrives
pub placed_values : (S : Setting) (H : History) (conn : ℕ) (list : List PartPlan)
    → map (value_of (past S H)) (parts_placed S (past S H) conn (accepted_count conn H) [] list) ≡ map (λ (p : Part). p.local) (parts_placed S (past S H) conn (accepted_count conn H) [] list)
placed_values S H conn list =
    let x = past S H in
    new_values S H conn (parts_placed S x conn (accepted_count conn H) [] list) (are_placed S x conn list) (placing_are_now S x conn (accepted_count conn H) [] list tt)

-- the parts of a command that has just arrived are those that were placed
pub placed_are_its : (S : Setting) (H : History) (s : Step) (conn : ℕ) (list : List PartPlan) → parts_by S (past S H) s.event ≡ parts_placed S (past S H) conn (accepted_count conn H) [] list
    → parts_of conn (accepted_count conn H) (after S s (past S H)) ≡ parts_placed S (past S H) conn (accepted_count conn H) [] list
placed_are_its S H s conn list e =
    let x = past S H in
    filter-append (is_part_of conn (accepted_count conn H)) x.parts (parts_by S x s.event)
    ∙ ap (λ z. z ++ filter (is_part_of conn (accepted_count conn H)) (parts_by S x s.event)) (not_yet S H conn (accepted_count conn H) (omega arith))
    ∙ ap (filter (is_part_of conn (accepted_count conn H))) e
    ∙ all_of conn (accepted_count conn H) (parts_placed S x conn (accepted_count conn H) [] list) (are_placed S x conn list)
