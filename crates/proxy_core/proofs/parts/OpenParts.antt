-- Connections once values have come to some parts.
use Rattle.std.proofs.Common.{◌≡◌, ◌⊎◌, ℕ, ◌==◌, ◌&&◌, not, Bool, true, false, if◌then◌else◌, List, [], ◌∷◌, ◌++◌, map, filter, filter_map, drop, Option, Some, None, Contains, refl, sym, ap, ◌∙◌, subst, inl, inr}
use Rattle.std.specs.List.{list_any}
use Rattle.std.proofs.lemmas.Bool.{cases_Bool, not-true, eqb-true, and_parts}
use Rattle.std.proofs.lemmas.List.{append-nil}
use Rattle.list_lemmas.proofs.CallerLemmas.{Contains-filter, Contains-filter_passing, filter-passes, list_any-true, list_any-member, list_any-none, list_any-false}
use Rattle.resp_core.specs.Tree.{Tree}
use Rattle.splitter.specs.declared.request.Request.{Request}
use Rattle.proxy_history.specs.Setting.{Setting}
use Rattle.proxy_history.specs.History.{History, Step, handed_count, requests, is_closed, is_finishing}
use Rattle.proxy_history.specs.Part.{Past, Part, is_same}
use Rattle.proxy_history.specs.Past.{past}
use Rattle.proxy_history.specs.Value.{value_of}
use Rattle.proxy_history.specs.Legal.{IsLegal}
use Rattle.proxy_history.specs.Laws.{AreApart}
use Rattle.proxy_history.proofs.CallerLemmas.{AreApart-filter as apart_filter}
use Rattle.proxy_core.specs.Connections.{connections_of, answered_parts, AreAwaited}
use Rattle.proxy_core.specs.Pipelines.{owner_of_part, place_of}
use Rattle.proxy_core.specs.declared.state.connection.Connection.{Connection}
use Rattle.proxy_core.proofs.parts.PartNumbers.{part_in_place, parts_are_numbered, part_is_asked, part_is_opened, not_handed}
use Rattle.proxy_core.proofs.parts.PartValues.{Values, valued, valued_connection, valued_from, connections-valued, same_valued, IsThere}
use Rattle.proxy_core.proofs.parts.PartsWithValue.{AreDue, given, given-is, are_awaited, parts-valued}

-- whether the part's connection is open
abbrev pub has_open : History → Part → Bool
has_open H p = not (is_closed p.conn H)

-- those of open connections
abbrev pub open_parts : History → List Part → List Part
open_parts H ps = filter (has_open H) ps

-- WHO GETS A VALUE

-- a part of an open connection that has no value yet may get one
pub is_there : (S : Setting) (H : History) (p : Part) → IsLegal S H → Contains (past S H).parts p → is_closed p.conn H ≡ false → value_of (past S H) p ≡ None → IsThere (past S H).parts H p
is_there S H p legal i o n = record {
  numbered = parts_are_numbered S H p.conn p.command;
  in_place = part_in_place S H p i;
  asked = part_is_asked S H p i;
  is_opened = part_is_opened S H p legal i;
  is_open = o;
  not_handed = not_handed S H p legal i n;
}

-- Parts that arrived, of which no two are the same, and none has a value.
pub record HaveNone (S : Setting) (H : History) (ps : List Part) : Type 0 where
  pub apart : AreApart ps
  pub arrived : (p : Part) → Contains ps p → Contains (past S H).parts p
  pub none : (p : Part) → Contains ps p → value_of (past S H) p ≡ None

are_due : (S : Setting) (H : History) (ps : List Part) → IsLegal S H → HaveNone S H ps → AreDue (value_of (past S H)) (past S H).parts H (open_parts H ps)
are_due S H ps legal n = record {
  apart = apart_filter (has_open H) ps n.apart;
  there = λ p h.
      let i = Contains-filter (has_open H) ps p h in
      is_there S H p legal (n.arrived p i) (not-true (is_closed p.conn H) (filter-passes (has_open H) ps p h)) (n.none p i);
  none = λ p h. n.none p (Contains-filter (has_open H) ps p h);
}

pub come-awaited : (S : Setting) (H : History) (ps : List Part) (v : Tree) → IsLegal S H → HaveNone S H ps → AreAwaited (map owner_of_part (open_parts H ps)) v (connections_of (past S H))
come-awaited S H ps v legal n =
    subst (λ (z : List (Option Connection)). AreAwaited (map owner_of_part (open_parts H ps)) v z) (sym (connections-valued (past S H)))
    (are_awaited (value_of (past S H)) (past S H).parts H (open_parts H ps) v (are_due S H ps legal n))

-- THE CONNECTIONS AFTERWARDS

same_conn : (p q : Part) → is_same q p ≡ true → q.conn ≡ p.conn
same_conn p q e =
    let a = and_parts ((q.conn == p.conn) && (q.command == p.command)) (q.number == p.number) e in
    eqb-true q.conn p.conn (and_parts (q.conn == p.conn) (q.command == p.command) a.0).0

-- who is of an open connection is the same as one of these exactly if as one of the open ones among them
any_open : (H : History) (ps : List Part) (q : Part) → is_closed q.conn H ≡ false → list_any (is_same q) (open_parts H ps) ≡ list_any (is_same q) ps
any_open H ps q o = by_any (cases_Bool (list_any (is_same q) ps))
  where
    by_any : (list_any (is_same q) ps ≡ true) ⊎ (list_any (is_same q) ps ≡ false) → list_any (is_same q) (open_parts H ps) ≡ list_any (is_same q) ps
    by_any (inl y) =
        let (p, among, same) = list_any-true (is_same q) ps y in
        let still : has_open H p ≡ true = ap (λ c. not (is_closed c H)) (sym (same_conn p q same)) ∙ ap not o in
        list_any-member (is_same q) (open_parts H ps) p (Contains-filter_passing (has_open H) ps p among still) same ∙ sym y
    by_any (inr n) = list_any-none (is_same q) (open_parts H ps) (λ p h. list_any-false (is_same q) ps p n (Contains-filter (has_open H) ps p h)) ∙ sym n

-- after a step that brings no parts and changes nothing but values
pub come-connections : (S : Setting) (H : History) (s : Step) (ps : List Part) (v : Tree) → IsLegal S H → HaveNone S H ps
    → connections_of (past S (s ∷ H)) ≡ valued (value_of (past S (s ∷ H))) (past S H).parts H
    → ((q : Part) → Contains (past S H).parts q → is_closed q.conn H ≡ false → value_of (past S (s ∷ H)) q ≡ (if list_any (is_same q) ps then Some v else value_of (past S H) q))
    → connections_of (past S (s ∷ H)) ≡ answered_parts (map owner_of_part (open_parts H ps)) v (connections_of (past S H))
come-connections S H s ps v legal n e f =
    let x = past S H in
    let due = open_parts H ps in
    e
    ∙ same_valued (value_of (past S (s ∷ H))) (given due v (value_of x)) x.parts H (λ q i o.
    f q i o ∙ ap (λ (b : Bool). if b then Some v else value_of x q) (sym (any_open H ps q o)) ∙ sym (given-is due v (value_of x) q))
    ∙ sym (parts-valued (value_of x) x.parts H due v (are_due S H ps legal n))
    ∙ ap (answered_parts (map owner_of_part due) v) (sym (connections-valued x))

-- the same parts and requests
pub nothing-new : (f : Values) (ps : List Part) (H : History) (c : ℕ) →
    (if is_closed c H then None else Some (record { queue = record { popped = handed_count c H; commands = drop (handed_count c H) (valued_from f (ps ++ []) c 0 (requests c H ++ [])) }; is_finishing = is_finishing c H }))
    ≡ valued_connection f ps H c
nothing-new f ps H c =
    ap (λ (z : List Part). if is_closed c H then None else Some (record { queue = record { popped = handed_count c H; commands = drop (handed_count c H) (valued_from f z c 0 (requests c H ++ [])) }; is_finishing = is_finishing c H })) (append-nil ps)
    ∙ ap (λ (z : List Request). if is_closed c H then None else Some (record { queue = record { popped = handed_count c H; commands = drop (handed_count c H) (valued_from f ps c 0 z) }; is_finishing = is_finishing c H })) (append-nil (requests c H))

-- OWNERS

-- the owners of those whose connection is open
pub open_owners : (x : Past) (ps : List Part) → filter_map (λ o. o) (map (place_of x) ps) ≡ map owner_of_part (open_parts x.steps ps)
open_owners x [] = refl
open_owners x (p ∷ ps) = elim (cases_Bool (is_closed p.conn x.steps)) [
  | inl y ↦ rw y (open_owners x ps)
  | inr n ↦ rw n (ap (λ z. owner_of_part p ∷ z) (open_owners x ps))
]
