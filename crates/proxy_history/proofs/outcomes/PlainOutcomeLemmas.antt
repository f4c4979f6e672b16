-- In a legal history each outcome can be written: it has no CR and no LF in a line.
use Rattle.std.proofs.Common.{◌≡◌, ◌&&◌, ℕ, Bool, true, false, nat_lt, ◌==◌, List, [], ◌∷◌, Contains, Option, Some, None, refl, sym, ◌∙◌, subst, inl, inr, arith, if◌then◌else◌}
use Rattle.std.specs.List.{list_all, find, zip, slice_get}
use Rattle.std.specs.Prelude.{option_map}
use Rattle.std.specs.Option.{option_and_then}
use Rattle.std.proofs.lemmas.Bool.{cases_Bool, and_parts, not-false}
use Rattle.std.proofs.lemmas.List.Folds.{list_all-append}
use Rattle.std.proofs.lemmas.List.Elements.{Contains-append_left, Contains-append_right}
use Rattle.list_lemmas.proofs.CallerLemmas.{Contains-filter}
use Rattle.resp_core.specs.Tree.{Tree, is_plain_tree}
use Rattle.resp_core.specs.Value.{tree_of}
use Rattle.resp_core.specs.declared.value.Value.{Value}
use Rattle.splitter.specs.declared.request.Request.{Request}
use Rattle.splitter.specs.declared.plans.Join.{Join}
use Rattle.splitter.specs.Request.{request_of}
use Rattle.splitter.specs.Plan.{Plan, here, leave, parts}
use Rattle.splitter.specs.Join.{join_of}
use Rattle.splitter.specs.Laws.{has_plain_value}
use Rattle.splitter.proofs.CallerLemmas.{plan_texts_are_plain, joins_of_plain_values_are_plain}
use Rattle.proxy_history.specs.Setting.{Setting}
use Rattle.proxy_history.specs.History.{History, plan_for, requests, epoch}
use Rattle.proxy_history.specs.Replies.{replies_from, reply_by}
use Rattle.proxy_history.specs.Part.{Part, Past, is_same}
use Rattle.proxy_history.specs.Past.{past}
use Rattle.proxy_history.specs.Waiting.{sent_to}
use Rattle.proxy_history.specs.Value.{reply_to, or_lost, value_at, value_or, value_of}
use Rattle.proxy_history.specs.Outcome.{with_value, values_of, is_part_of, parts_of, outcome_by, outcome}
use Rattle.proxy_history.specs.Cause.{own_cause, causes}
use Rattle.proxy_history.specs.Legal.{IsLegal}
use Rattle.proxy_history.specs.Laws.{IsPlaced}
use Rattle.proxy_history.specs.declared.event.Event.{Event}
use Rattle.proxy_history.specs.declared.event.Event.TheVariants.{Answered}
use Rattle.proxy_history.proofs.causes.NoCauseLemmas.{are_false}
use Rattle.proxy_history.proofs.parts.ArrivalLemmas.{parts_have_arrived}

-- whether a value, if there is one, can be written
abbrev pub IsPlainIfAny : Option Tree → Type 0
IsPlainIfAny None = Unit {0}
IsPlainIfAny (Some v) = is_plain_tree v ≡ true

-- REPLIES

plain_reply : (S : Setting) (x : Past) (host e t : ℕ) (value : Value) → own_cause S x (Answered host e value t) ≡ None → is_plain_tree (tree_of value) ≡ true
plain_reply S x host e t value n =
    let a = are_false (causes S x (Answered host e value t)) n in
    not-false (is_plain_tree (tree_of value)) a.1.0

if_plain : (b : Bool) (v : Tree) → is_plain_tree v ≡ true → list_all is_plain_tree (if b then v ∷ [] else []) ≡ true
if_plain true v e = rw e refl
if_plain false v e = refl

plain_reply_by : (S : Setting) (x : Past) (event : Event) (h e : ℕ) → own_cause S x event ≡ None → list_all is_plain_tree (reply_by h e event) ≡ true
plain_reply_by S x (Answered host ep value t) h e n = if_plain ((host == h) && (ep == e)) (tree_of value) (plain_reply S x host ep t value n)
plain_reply_by S x _ h e n = refl

pub replies_are_plain : (S : Setting) (H : History) (h e : ℕ) → IsLegal S H → list_all is_plain_tree (replies_from h e H) ≡ true
replies_are_plain S [] h e legal = refl
replies_are_plain S (s ∷ before) h e legal =
    list_all-append is_plain_tree (replies_from h e before) (reply_by h e s.event)
    ∙ rw (replies_are_plain S before h e legal.0, plain_reply_by S (past S before) s.event h e legal.1.has_no_cause) refl

found_is_plain : (t : Part × Tree → Bool) (xs : List Part) (ys : List Tree) → list_all is_plain_tree ys ≡ true → IsPlainIfAny (option_map (λ r. r.1) (find t (zip xs ys)))
found_is_plain t [] ys h = tt
found_is_plain t (x ∷ xs) [] h = tt
found_is_plain t (x ∷ xs) (y ∷ ys) h =
    let a = and_parts (is_plain_tree y) (list_all is_plain_tree ys) h in
    elim (cases_Bool (t (x, y))) [ inl e ↦ rw e a.0 | inr e ↦ rw e (found_is_plain t xs ys a.1) ]

-- VALUES

lost_is_plain : (b : Bool) (o : Option Tree) → IsPlainIfAny o → IsPlainIfAny (or_lost b o)
lost_is_plain b (Some v) h = h
lost_is_plain true None h = refl
lost_is_plain false None h = tt

module _ (S : Setting) (H : History) (legal : IsLegal S H) where
  at_host : (p : Part) (o : Option ℕ) → IsPlainIfAny (value_at (past S H) p o)
  at_host p None = tt
  at_host p (Some h) = lost_is_plain (nat_lt p.epoch (epoch h H)) (reply_to p h (past S H))
      (found_is_plain (λ r. is_same p r.0) (sent_to h p.epoch (past S H)) (replies_from h p.epoch H) (replies_are_plain S H h p.epoch legal))

  at_once : (x : Past) (placed : List Part) (host : Option ℕ) (e : ℕ) (local : Option Tree) → IsPlaced x placed host e local → IsPlainIfAny local
  at_once x placed None e local g = subst IsPlainIfAny (sym g) refl
  at_once x placed (Some h) e local g = elim g.1 [ inl none ↦ subst IsPlainIfAny (sym none.1) tt | inr busy ↦ subst IsPlainIfAny (sym busy.1) refl ]

  either : (local later : Option Tree) → IsPlainIfAny local → IsPlainIfAny later → IsPlainIfAny (value_or local later)
  either (Some v) later a b = a
  either None later a b = b

  value_is_plain : (p : Part) → Contains (past S H).parts p → IsPlainIfAny (value_of (past S H) p)
  value_is_plain p h =
      let a = parts_have_arrived S H p h in
      either p.local (value_at (past S H) p p.host) (at_once (past S a.before) a.placed p.host p.epoch p.local a.got) (at_host p p.host)

  -- whether all values, if each is there, can be written
  abbrev ArePlainIfAll : Option (List Tree) → Type 0
  ArePlainIfAll None = Unit {0}
  ArePlainIfAll (Some vs) = list_all is_plain_tree vs ≡ true

  with_plain : (o : Option Tree) (os : Option (List Tree)) → IsPlainIfAny o → ArePlainIfAll os → ArePlainIfAll (with_value o os)
  with_plain None os a b = tt
  with_plain (Some v) None a b = tt
  with_plain (Some v) (Some vs) a b = rw (a, b) refl

  values_are_plain : (ps : List Part) → ((p : Part) → Contains ps p → Contains (past S H).parts p) → ArePlainIfAll (values_of (past S H) ps)
  values_are_plain [] h = refl
  values_are_plain (p ∷ ps) h =
      with_plain (value_of (past S H) p) (values_of (past S H) ps) (value_is_plain p (h p (Contains-append_left (p ∷ []) ps p (0, omega arith, refl))))
      (values_are_plain ps (λ q g. h q (Contains-append_right (p ∷ []) ps q g)))

  joined_is_plain : (how : Join) (os : Option (List Tree)) → ArePlainIfAll os → IsPlainIfAny (option_map (join_of how) os)
  joined_is_plain how None h = tt
  joined_is_plain how (Some vs) h = joins_of_plain_values_are_plain how vs h

  by_plan : (c i : ℕ) (p : Plan) → has_plain_value p ≡ true → IsPlainIfAny (outcome_by (past S H) c i p)
  by_plan c i (here name v) h = h
  by_plan c i (leave name v) h = h
  by_plan c i (parts how list) h = joined_is_plain how (values_of (past S H) (parts_of c i (past S H))) (values_are_plain (parts_of c i (past S H)) (λ p g. Contains-filter (is_part_of c i) (past S H).parts p g))

  by_request : (c i : ℕ) (o : Option Request) → IsPlainIfAny (option_and_then (λ request. outcome_by (past S H) c i (plan_for request)) o)
  by_request c i None = tt
  by_request c i (Some request) = by_plan c i (plan_for request) (plan_texts_are_plain (request_of request))

  pub outcome_is_plain : (c i : ℕ) → IsPlainIfAny (outcome c i (past S H))
  outcome_is_plain c i = by_request c i (slice_get (requests c H) i)
