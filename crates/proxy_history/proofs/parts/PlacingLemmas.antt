-- A command's parts are placed at its arrival and never later.
use Rattle.std.proofs.Common.{◌≡◌, ℕ, ◌+◌, ◌<◌, Bool, true, false, ◌==◌, ◌&&◌, List, [], ◌∷◌, ◌++◌, length, filter, Option, Some, None, refl, ap, ◌∙◌, inl, inr, arith, if◌then◌else◌}
use Rattle.std.proofs.lemmas.Bool.{cases_Bool, eqb-true, ne_eqb, and_left, and_right}
use Rattle.std.proofs.lemmas.List.{length-append, append-nil}
use Rattle.std.proofs.lemmas.List.Elements.{filter-append}
use Rattle.proxy_history.specs.Setting.{Setting}
use Rattle.splitter.specs.Plan.{Plan, here, leave, parts}
use Rattle.splitter.specs.declared.plans.PartPlan.{PartPlan}
use Rattle.proxy_history.specs.History.{plan_for, History, accepted_count, requests, request_by, is_arrival, Step}
use Rattle.proxy_history.specs.Part.{Past, Part}
use Rattle.proxy_history.specs.Past.{after}
use Rattle.proxy_history.specs.Arrival.{parts_placed, placed_part, placed_by, parts_by, with_host, host_for, hostless}
use Rattle.proxy_history.specs.Outcome.{parts_of, is_part_of}
use Rattle.proxy_history.specs.declared.event.Event.{Event}
use Rattle.proxy_history.specs.declared.event.Event.TheVariants.{Arrived}

length_if : {X : Type 0} (n : ℕ) (b : Bool) (x : X) → n + length (if b then x ∷ [] else []) ≡ (if b then n + 1 else n)
length_if n true x = refl
length_if n false x = omega arith

none_more : (n : ℕ) → n + 0 ≡ n
none_more n = omega arith

one_request : (c n : ℕ) (event : Event) → n + length (request_by c event) ≡ (if is_arrival c event then n + 1 else n)
one_request c n (Arrived conn request) = length_if n (conn == c) request
one_request c n _ = none_more n

-- as many requests as arrivals
pub length-requests : (c : ℕ) (H : History) → length (requests c H) ≡ accepted_count c H
length-requests c [] = refl
length-requests c (s ∷ before) =
    length-append (requests c before) (request_by c s.event) ∙ rw (length-requests c before) (one_request c (accepted_count c before) s.event)

abbrev pub AreOf : ℕ → ℕ → List Part → Type 0
AreOf conn command [] = Unit {0}
AreOf conn command (p ∷ ps) = (p.conn ≡ conn) × (p.command ≡ command) × AreOf conn command ps

are_of_with : (conn command : ℕ) (ps : List Part) (q : Part) → AreOf conn command ps → q.conn ≡ conn → q.command ≡ command → AreOf conn command (ps ++ q ∷ [])
are_of_with conn command [] q a e f = (e, f, tt)
are_of_with conn command (p ∷ ps) q (of_conn, of_command, others) e f = (of_conn, of_command, are_of_with conn command ps q others e f)

pub host_keeps_conn : (x : Past) (placed : List Part) (o : Option ℕ) (p : Part) → (with_host x placed o p).conn ≡ p.conn
host_keeps_conn x placed None p = refl
host_keeps_conn x placed (Some h) p = refl

pub host_keeps_command : (x : Past) (placed : List Part) (o : Option ℕ) (p : Part) → (with_host x placed o p).command ≡ p.command
host_keeps_command x placed None p = refl
host_keeps_command x placed (Some h) p = refl

pub placing_are_of : (S : Setting) (x : Past) (conn command : ℕ) (placed : List Part) (ps : List PartPlan) → AreOf conn command placed → AreOf conn command (parts_placed S x conn command placed ps)
placing_are_of S x conn command placed [] a = a
placing_are_of S x conn command placed (p ∷ ps) a =
    placing_are_of S x conn command (placed ++ placed_part S x conn command placed p ∷ []) ps
    (are_of_with conn command placed (placed_part S x conn command placed p) a
    (host_keeps_conn x placed (host_for S x p.key) (hostless conn command (length placed) p))
    (host_keeps_command x placed (host_for S x p.key) (hostless conn command (length placed) p)))

-- none of these parts is of another command
pub none_of : (c i conn command : ℕ) (ps : List Part) → ((conn == c) && (command == i)) ≡ false → AreOf conn command ps → filter (is_part_of c i) ps ≡ []
none_of c i conn command [] e a = refl
none_of c i conn command (p ∷ ps) e (of_conn, of_command, others) =
    let f : is_part_of c i p ≡ false = rw (of_conn, of_command) e in
    rw (f) (none_of c i conn command ps e others)

is_other : (x : Past) (c i conn : ℕ) → i < accepted_count c x.steps → ((conn == c) && (accepted_count conn x.steps == i)) ≡ false
is_other x c i conn l = elim (cases_Bool (conn == c)) [
  | inl t ↦ and_right _ _ (ne_eqb (accepted_count conn x.steps) i (λ e. omega (arith, ap (λ k. accepted_count k x.steps) (eqb-true conn c t), e, l)))
  | inr f ↦ and_left _ _ f
]

placed_other : (S : Setting) (x : Past) (c i conn : ℕ) (p : Plan) → i < accepted_count c x.steps → filter (is_part_of c i) (placed_by S x conn p) ≡ []
placed_other S x c i conn (parts how list) l =
    none_of c i conn (accepted_count conn x.steps) _ (is_other x c i conn l) (placing_are_of S x conn (accepted_count conn x.steps) [] list tt)
placed_other S x c i conn (here name value) l = refl
placed_other S x c i conn (leave name value) l = refl

others_by : (S : Setting) (x : Past) (c i : ℕ) (event : Event) → i < accepted_count c x.steps → filter (is_part_of c i) (parts_by S x event) ≡ []
others_by S x c i (Arrived conn request) l = placed_other S x c i conn (plan_for request) l
others_by S x c i _ l = refl

-- the parts of a command that arrived stay the same
pub parts_stay : (S : Setting) (x : Past) (c i : ℕ) (s : Step) → i < accepted_count c x.steps → parts_of c i (after S s x) ≡ parts_of c i x
parts_stay S x c i s l =
    filter-append (is_part_of c i) x.parts (parts_by S x s.event) ∙ rw (others_by S x c i s.event l) (append-nil (parts_of c i x))
