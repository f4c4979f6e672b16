-- Parts that have no value yet get one, each in its turn.
use Rattle.std.proofs.Common.{◌≡◌, ℕ, zero, suc, ◌+◌, ◌-◌, ◌≤◌, ◌||◌, Bool, true, false, if◌then◌else◌, List, [], ◌∷◌, map, drop, Option, Some, None, Contains, slice_get, option_map, option_and_then, refl, sym, ap, ◌∙◌, subst, arith}
use Rattle.std.specs.List.{list_any}
use Rattle.std.proofs.lemmas.Bool.{le-ltb}
use Rattle.std.proofs.lemmas.Option.{slice_get-map}
use Rattle.list_lemmas.proofs.CallerLemmas.{slice_get-table, Contains-first, Contains-later, list_any-false}
use Rattle.resp_core.specs.Tree.{Tree}
use Rattle.splitter.specs.Plan.{Plan}
use Rattle.splitter.specs.declared.request.Request.{Request}
use Rattle.reply_queue.specs.Command.{AwaitedCommand}
use Rattle.reply_queue.specs.Queue.{IsOpen}
use Rattle.proxy_history.specs.History.{History, plan_for, openings, handed_count, requests, is_finishing}
use Rattle.proxy_history.specs.Part.{Part, is_same}
use Rattle.proxy_history.specs.Laws.{AreApart}
use Rattle.proxy_history.proofs.CallerLemmas.{is_same-sym_false as is_other_sym}
use Rattle.proxy_core.specs.Connections.{answered_parts, IsAwaited, AreAwaited}
use Rattle.proxy_core.specs.Pipelines.{owner_of_part}
use Rattle.proxy_core.specs.declared.state.connection.Connection.{Connection}
use Rattle.proxy_core.proofs.parts.PartValues.{Values, valued, valued_connection, valued_queue, valued_from, valued_by, own_parts, having, having-other, IsThere, part-valued}

-- WHO HAS NO VALUE IS AWAITED

slice_get_behind : {X : Type 0} (n k : ℕ) (xs : List X) → n ≤ k → slice_get (drop n xs) (k - n) ≡ slice_get xs k
slice_get_behind zero k xs l = ap (slice_get xs) (omega arith)
slice_get_behind (suc n) k [] l = refl
slice_get_behind (suc n) zero (x ∷ xs) l = absurd (omega (arith, l))
slice_get_behind (suc n) (suc k) (x ∷ xs) l = ap (slice_get (drop n xs)) (omega arith) ∙ slice_get_behind n k xs (omega (arith, l))

command-valued : (f : Values) (ps : List Part) (c i k : ℕ) (rs : List Request) (r : Request) → slice_get rs k ≡ Some r
    → slice_get (valued_from f ps c i rs) k ≡ Some (valued_by f ps c (i + k) (plan_for r))
command-valued f ps c i k [] r e = absurd (cc e)
command-valued f ps c i zero (t ∷ rs) r e =
    let is : t ≡ r = cc in
    let at : i ≡ i + 0 = omega arith in
    ap (λ z. Some (valued_by f ps c i (plan_for z))) is ∙ ap (λ z. Some (valued_by f ps c z (plan_for r))) at
command-valued f ps c i (suc k) (t ∷ rs) r e = command-valued f ps c (i + 1) k rs r e ∙ ap (λ z. Some (valued_by f ps c z (plan_for r))) (omega arith)

module _ (f : Values) (ps : List Part) (H : History) (p : Part) (t : IsThere ps H p) (none : f p ≡ None) where
  own_values : (plan : Plan) → plan ≡ plan_for t.asked.request → slice_get (valued_by f ps p.conn p.command plan).values p.number ≡ Some None
  own_values plan e =
      ap (λ (z : Plan). slice_get (valued_by f ps p.conn p.command z).values p.number) (e ∙ t.asked.is_split)
      ∙ slice_get-map f (own_parts ps p.conn p.command) p.number ∙ ap (option_map f) t.in_place ∙ ap Some none

  is_open_part : IsOpen (valued_queue f ps H p.conn) p.command p.number
  is_open_part =
      let n = handed_count p.conn H in
      let there : slice_get (drop n (valued_from f ps p.conn 0 (requests p.conn H))) (p.command - n) ≡ Some (valued_by f ps p.conn p.command (plan_for t.asked.request)) =
      slice_get_behind n p.command (valued_from f ps p.conn 0 (requests p.conn H)) t.not_handed
      ∙ command-valued f ps p.conn 0 p.command (requests p.conn H) t.asked.request t.asked.is_request
      ∙ ap (λ z. Some (valued_by f ps p.conn z (plan_for t.asked.request))) (omega arith) in
      ap (λ (b : Bool). option_and_then (λ (command : AwaitedCommand). slice_get command.values p.number) (if b then None else slice_get (drop n (valued_from f ps p.conn 0 (requests p.conn H))) (p.command - n)))
      (le-ltb p.command n t.not_handed)
      ∙ ap (option_and_then (λ (command : AwaitedCommand). slice_get command.values p.number)) there
      ∙ own_values (plan_for t.asked.request) refl

  open_connection : valued_connection f ps H p.conn ≡ Some (record { queue = valued_queue f ps H p.conn; is_finishing = is_finishing p.conn H })
  open_connection = rw (t.is_open) refl

  pub is_awaited : IsAwaited (owner_of_part p) (valued f ps H)
  is_awaited = record {
    connection = record { queue = valued_queue f ps H p.conn; is_finishing = is_finishing p.conn H };
    is_open = slice_get-table (valued_connection f ps H) (openings H) p.conn t.is_opened ∙ ap Some open_connection;
    is_awaited = is_open_part;
  }

-- SOME PARTS GET A VALUE

-- the values once these parts have this one
abbrev pub given : List Part → Tree → Values → Values
given [] v f = f
given (p ∷ ps) v f = given ps v (having p v f)

either_way : {X : Type 0} (a b : Bool) (x y : X) → (if b then x else (if a then x else y)) ≡ (if a || b then x else y)
either_way true true x y = refl
either_way true false x y = refl
either_way false b x y = refl

pub given-is : (ps : List Part) (v : Tree) (f : Values) (q : Part) → given ps v f q ≡ (if list_any (is_same q) ps then Some v else f q)
given-is [] v f q = refl
given-is (p ∷ ps) v f q = given-is ps v (having p v f) q ∙ either_way (is_same q p) (list_any (is_same q) ps) (Some v) (f q)

-- each of these parts may get a value, and has none yet
pub record AreDue (f : Values) (ps : List Part) (H : History) (due : List Part) : Type 0 where
  pub apart : AreApart due
  pub there : (p : Part) → Contains due p → IsThere ps H p
  pub none : (p : Part) → Contains due p → f p ≡ None

others_due : (f : Values) (ps : List Part) (H : History) (p : Part) (due : List Part) (v : Tree) → AreDue f ps H (p ∷ due) → AreDue (having p v f) ps H due
others_due f ps H p due v d = record {
  apart = d.apart.1;
  there = λ q h. d.there q (Contains-later p due q h);
  none = λ q h. having-other p v f q (is_other_sym p q (list_any-false (is_same p) due q d.apart.0 h)) ∙ d.none q (Contains-later p due q h);
}

pub are_awaited : (f : Values) (ps : List Part) (H : History) (due : List Part) (v : Tree) → AreDue f ps H due → AreAwaited (map owner_of_part due) v (valued f ps H)
are_awaited f ps H [] v d = tt
are_awaited f ps H (p ∷ due) v d = (
  is_awaited f ps H p (d.there p (Contains-first p due)) (d.none p (Contains-first p due)),
  subst (λ (z : List (Option Connection)). AreAwaited (map owner_of_part due) v z) (sym (part-valued f ps H p v (d.there p (Contains-first p due))))
      (are_awaited (having p v f) ps H due v (others_due f ps H p due v d)),
)

pub parts-valued : (f : Values) (ps : List Part) (H : History) (due : List Part) (v : Tree) → AreDue f ps H due → answered_parts (map owner_of_part due) v (valued f ps H) ≡ valued (given due v f) ps H
parts-valued f ps H [] v d = refl
parts-valued f ps H (p ∷ due) v d =
    ap (answered_parts (map owner_of_part due) v) (part-valued f ps H p v (d.there p (Contains-first p due)))
    ∙ parts-valued (having p v f) ps H due v (others_due f ps H p due v d)
