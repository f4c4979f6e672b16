-- What a value's first line tells, and what stands behind it.
use Rattle.std.proofs.Common.{◌≡◌, ◌<◌, ◌≤◌, ◌^◌, ◌+◌, ◌-◌, ℕ, zero, suc, ℤ, pos, negsuc, true, false, List, [], ◌∷◌, ◌++◌, length, Option, Some, None, decimal, refl, sym, ap, subst, ◌∙◌, arith, append_assoc}
use Rattle.std.specs.Prelude.{◌==◌}
use Rattle.std.specs.List.{list_all}
use Rattle.std.specs.Fmt.{signed_decimal}
use Rattle.std.specs.Str.Parse.{AllDigits}
use Rattle.std.proofs.lemmas.Bool.{ne_eqb}
use Rattle.std.proofs.lemmas.Fmt.{decimal_is_IsNumeral}
use Rattle.std.proofs.lemmas.Str.Parse.{digit_from_value}
use Rattle.std.proofs.lemmas.List.{append-nil, length-append}
use Rattle.resp_core.specs.Tree.{Tree, Trees, simple, fault, whole, bulk, null_bulk, list, null_list, no_trees, tree, members, is_text_byte, is_plain_tree}
use Rattle.resp_core.specs.Text.{line, line_end, text, texts}
use Rattle.resp_core.specs.ValueLimits.{IsLong}
use Rattle.proxy_record.specs.ReadBack.{IsShowable, AreShowable, Finds, FindsBulk, FindsList, FindsNull, IsReadBack, IsTaken}
use Rattle.proxy_record.proofs.ReadBackLemmas.{kind_of, shown_of, rest_of, plain_showable}

-- a text is its first line and what stands behind that
text_parts : (t : Tree) → text t ≡ line (kind_of t) (shown_of t) ++ rest_of t
text_parts (simple s) = sym (append-nil (line 43 s))
text_parts (fault s) = sym (append-nil (line 45 s))
text_parts (whole n) = sym (append-nil (line 58 (signed_decimal n)))
text_parts (bulk s) = append_assoc (line 36 (decimal (length s))) s line_end
text_parts null_bulk = refl
text_parts (list ts) = refl
text_parts null_list = refl

-- the first line of bytes that begin with a text
pub first_line : (t : Tree) (before behind : List ℕ) → before ≡ text t ++ behind → before ≡ line (kind_of t) (shown_of t) ++ (rest_of t ++ behind)
first_line t before behind is =
    is ∙ ap (λ z. z ++ behind) (text_parts t) ∙ append_assoc (line (kind_of t) (shown_of t)) (rest_of t) behind

-- a text has some bytes, and as many as its members at least
text_some : (t : Tree) → 0 < length (text t)
text_some (simple s) = omega arith
text_some (fault s) = omega arith
text_some (whole n) = omega arith
text_some (bulk s) = omega arith
text_some null_bulk = omega arith
text_some (list ts) = omega arith
text_some null_list = omega arith

pub few_members : (ts : Trees) → length (members ts) ≤ length (texts ts)
few_members no_trees = omega arith
few_members (tree t ts) = omega (arith, few_members ts, text_some t, length-append (text t) (texts ts))

-- digits are neither CR nor LF
plain_digits : (ds : List ℕ) → AllDigits 10 ds → list_all is_text_byte ds ≡ true
plain_digits [] all = refl
plain_digits (d ∷ ds) all =
    let no_cr : (d == 13) ≡ false = ne_eqb d 13 (λ e. omega (arith, digit_from_value d all.0)) in
    let no_lf : (d == 10) ≡ false = ne_eqb d 10 (λ e. omega (arith, digit_from_value d all.0)) in
    rw (no_cr, no_lf) (plain_digits ds all.1)

plain_decimal : (n : ℕ) → n < 2 ^ 64 → list_all is_text_byte (decimal n) ≡ true
plain_decimal n small = plain_digits (decimal n) (decimal_is_IsNumeral n small).0.1

-- a first line is plain
pub plain_line : (left : ℕ) (t : Tree) (before behind : List ℕ) → IsShowable left t → before ≡ text t ++ behind → length before < 2 ^ 64
    → list_all is_text_byte (shown_of t) ≡ true
plain_line left (simple s) before behind h is small = h
plain_line left (fault s) before behind h is small = h
plain_line left (whole (pos n)) before behind h is small = plain_decimal n (omega arith)
plain_line left (whole (negsuc n)) before behind h is small = plain_decimal (suc n) (omega arith)
plain_line left (bulk s) before behind h is small = plain_decimal (length s)
    (omega (arith, ap length is, length-append (text (bulk s)) behind, length-append (line 36 (decimal (length s)) ++ s) line_end, length-append (line 36 (decimal (length s))) s))
plain_line left null_bulk before behind h is small = refl
plain_line left (list ts) before behind h is small = plain_decimal (length (members ts))
    (omega (arith, few_members ts, ap length is, length-append (text (list ts)) behind, length-append (line 42 (decimal (length (members ts)))) (texts ts)))
plain_line left null_list before behind h is small = refl

-- the line in front of a value's text was taken
pub taken : (left : ℕ) (t : Tree) (before behind after : List ℕ) (found : Option (ℕ × List ℕ)) (kind : ℕ) (shown : List ℕ)
    → found ≡ Some (kind, shown) → length before < 2 ^ 64 → IsShowable left t → before ≡ text t ++ behind
    → ((k : ℕ) (s b : List ℕ) → list_all is_text_byte s ≡ true → before ≡ line k s ++ b → IsTaken k s found × (after ≡ b))
    → (kind ≡ kind_of t) × (shown ≡ shown_of t) × (after ≡ rest_of t ++ behind)
taken left t before behind after found kind shown is small h begins takes =
    let plain = plain_line left t before behind h begins small in
    let got = takes (kind_of t) (shown_of t) (rest_of t ++ behind) plain (first_line t before behind begins) in
    let both = subst (IsTaken (kind_of t) (shown_of t)) is got.0 in
    (both.0, both.1, got.1)

-- it can't be missing
pub not_taken : (left : ℕ) (t : Tree) (before behind after : List ℕ) (found : Option (ℕ × List ℕ))
    → found ≡ None → length before < 2 ^ 64 → IsShowable left t → before ≡ text t ++ behind
    → ((k : ℕ) (s b : List ℕ) → list_all is_text_byte s ≡ true → before ≡ line k s ++ b → IsTaken k s found × (after ≡ b))
    → ⊥
not_taken left t before behind after found is small h begins takes =
    let plain = plain_line left t before behind h begins small in
    let got = takes (kind_of t) (shown_of t) (rest_of t ++ behind) plain (first_line t before behind begins) in
    subst (IsTaken (kind_of t) (shown_of t)) is got.0

-- what the type of a value tells
pub simple_arm : (t : Tree) (s : List ℕ) → 43 ≡ kind_of t → s ≡ shown_of t → (Some (simple s) ≡ Some t) × (rest_of t ≡ [])
simple_arm (simple x) s kind is = (ap (λ z. Some (simple z)) is, refl)
simple_arm (fault x) s kind is = absurd (omega arith)
simple_arm (whole x) s kind is = absurd (omega arith)
simple_arm (bulk x) s kind is = absurd (omega arith)
simple_arm null_bulk s kind is = absurd (omega arith)
simple_arm (list x) s kind is = absurd (omega arith)
simple_arm null_list s kind is = absurd (omega arith)

pub fault_arm : (t : Tree) (s : List ℕ) → 45 ≡ kind_of t → s ≡ shown_of t → (Some (fault s) ≡ Some t) × (rest_of t ≡ [])
fault_arm (simple x) s kind is = absurd (omega arith)
fault_arm (fault x) s kind is = (ap (λ z. Some (fault z)) is, refl)
fault_arm (whole x) s kind is = absurd (omega arith)
fault_arm (bulk x) s kind is = absurd (omega arith)
fault_arm null_bulk s kind is = absurd (omega arith)
fault_arm (list x) s kind is = absurd (omega arith)
fault_arm null_list s kind is = absurd (omega arith)

pub whole_arm : (left : ℕ) (t : Tree) (s : List ℕ) (found : Option Tree) → ((n : ℤ) → IsLong n → s ≡ signed_decimal n → found ≡ Some (whole n))
    → IsShowable left t → 58 ≡ kind_of t → s ≡ shown_of t → (found ≡ Some t) × (rest_of t ≡ [])
whole_arm left (simple x) s found finds h kind is = absurd (omega arith)
whole_arm left (fault x) s found finds h kind is = absurd (omega arith)
whole_arm left (whole n) s found finds h kind is = (finds n h is, refl)
whole_arm left (bulk x) s found finds h kind is = absurd (omega arith)
whole_arm left null_bulk s found finds h kind is = absurd (omega arith)
whole_arm left (list x) s found finds h kind is = absurd (omega arith)
whole_arm left null_list s found finds h kind is = absurd (omega arith)

pub bulk_arm : (t : Tree) (s before after behind : List ℕ) (found : Option Tree) → FindsBulk s before after found → FindsNull null_bulk s before after found
    → 36 ≡ kind_of t → s ≡ shown_of t → before ≡ rest_of t ++ behind → (found ≡ Some t) × (after ≡ behind)
bulk_arm (simple x) s before after behind found finds null kind is rest = absurd (omega arith)
bulk_arm (fault x) s before after behind found finds null kind is rest = absurd (omega arith)
bulk_arm (whole x) s before after behind found finds null kind is rest = absurd (omega arith)
bulk_arm (bulk x) s before after behind found finds null kind is rest = finds x behind is rest
bulk_arm null_bulk s before after behind found finds null kind is rest = ((null is).0, (null is).1 ∙ rest)
bulk_arm (list x) s before after behind found finds null kind is rest = absurd (omega arith)
bulk_arm null_list s before after behind found finds null kind is rest = absurd (omega arith)

some_left : (left : ℕ) → IsShowable left null_list → 0 < left
some_left zero h = absurd h
some_left (suc left) h = omega arith

pub list_arm : (left : ℕ) (t : Tree) (s before after behind : List ℕ) (found : Option Tree) → FindsList left s before after found
    → (0 < left → FindsNull null_list s before after found)
    → IsShowable left t → 42 ≡ kind_of t → s ≡ shown_of t → before ≡ rest_of t ++ behind → (found ≡ Some t) × (after ≡ behind)
list_arm left (simple x) s before after behind found finds null h kind is rest = absurd (omega arith)
list_arm left (fault x) s before after behind found finds null h kind is rest = absurd (omega arith)
list_arm left (whole x) s before after behind found finds null h kind is rest = absurd (omega arith)
list_arm left (bulk x) s before after behind found finds null h kind is rest = absurd (omega arith)
list_arm left null_bulk s before after behind found finds null h kind is rest = absurd (omega arith)
list_arm left (list ts) s before after behind found finds null h kind is rest = finds ts behind h is rest
list_arm left null_list s before after behind found finds null h kind is rest =
    let none = null (some_left left h) is in (none.0, none.1 ∙ rest)

-- the members of an array that can be shown can
pub showable_members : (left : ℕ) (ts : Trees) → IsShowable left (list ts) → AreShowable (left - 1) ts
showable_members zero ts h = absurd h
showable_members (suc left) ts h = let e : left ≡ suc left - 1 = omega arith in subst (λ n. AreShowable n ts) e h

-- What is left of the members of an array: these were read, and the others' texts stand in front.
pub record Remain (left done count : ℕ) (read : List Tree) (rest behind : List ℕ) (ts : Trees) : Type 0 where
  pub others : Trees
  pub showable : AreShowable left others
  pub count_is : done + length (members others) ≡ count
  pub joined : read ++ members others ≡ members ts
  pub rest_is : rest ≡ texts others ++ behind

-- before any member was read
pub remain_all : (left count : ℕ) (read : List Tree) (rest behind : List ℕ) (ts : Trees) → read ≡ [] → AreShowable left ts
    → count ≡ length (members ts) → rest ≡ texts ts ++ behind → Remain left 0 count read rest behind ts
remain_all left count read rest behind ts none h all is = record {
  others = ts;
  showable = h;
  count_is = omega arith;
  joined = ap (λ z. z ++ members ts) none;
  rest_is = is;
}

more_of : (left done count : ℕ) (read : List Tree) (v : Tree) (rest after behind : List ℕ) (ts : Trees) (found : Option Tree) (others : Trees)
    → AreShowable left others → done + length (members others) ≡ count → read ++ members others ≡ members ts → rest ≡ texts others ++ behind
    → done < count → Finds left rest after found → found ≡ Some v → Remain left (done + 1) count (read ++ v ∷ []) after behind ts
more_of left done count read v rest after behind ts found no_trees h all joined is within finds have = absurd (omega arith)
more_of left done count read v rest after behind ts found (tree t us) h all joined is within finds have =
    let got = finds t (texts us ++ behind) h.0 (is ∙ append_assoc (text t) (texts us) behind) in
    let both : Some v ≡ Some t = sym have ∙ got.0 in
    let same : v ≡ t = cc in
    record {
      others = us;
      showable = h.1;
      count_is = omega arith;
      joined = append_assoc read (v ∷ []) (members us) ∙ ap (λ z. read ++ z ∷ members us) same ∙ joined;
      rest_is = got.1;
    }

-- one more member was read
pub remain_more : (left done count : ℕ) (read : List Tree) (v : Tree) (rest after behind : List ℕ) (ts : Trees) (found : Option Tree)
    → Remain left done count read rest behind ts → done < count → Finds left rest after found → found ≡ Some v
    → Remain left (done + 1) count (read ++ v ∷ []) after behind ts
remain_more left done count read v rest after behind ts found r within finds have =
    more_of left done count read v rest after behind ts found r.others r.showable r.count_is r.joined r.rest_is within finds have

none_of : (left done count : ℕ) (rest after behind : List ℕ) (found : Option Tree) (others : Trees) → AreShowable left others
    → done + length (members others) ≡ count → rest ≡ texts others ++ behind → done < count → Finds left rest after found → found ≡ None → ⊥
none_of left done count rest after behind found no_trees h all is within finds missing = omega arith
none_of left done count rest after behind found (tree t us) h all is within finds missing =
    let got = finds t (texts us ++ behind) h.0 (is ∙ append_assoc (text t) (texts us) behind) in
    let both : None ≡ Some t = sym missing ∙ got.0 in cc

-- none is missing
pub remain_none : (left done count : ℕ) (read : List Tree) (rest after behind : List ℕ) (ts : Trees) (found : Option Tree)
    → Remain left done count read rest behind ts → done < count → Finds left rest after found → found ≡ None → ⊥
remain_none left done count read rest after behind ts found r within finds missing =
    none_of left done count rest after behind found r.others r.showable r.count_is r.rest_is within finds missing

end_of : (done count : ℕ) (read : List Tree) (rest behind : List ℕ) (ts others : Trees) → done + length (members others) ≡ count
    → read ++ members others ≡ members ts → rest ≡ texts others ++ behind → count ≤ done → (read ≡ members ts) × (rest ≡ behind)
end_of done count read rest behind ts no_trees all joined is ended = (sym (append-nil read) ∙ joined, is)
end_of done count read rest behind ts (tree t us) all joined is ended = absurd (omega arith)

-- all members were read
pub remain_end : (left done count : ℕ) (read : List Tree) (rest behind : List ℕ) (ts : Trees) → Remain left done count read rest behind ts → count ≤ done
    → (read ≡ members ts) × (rest ≡ behind)
remain_end left done count read rest behind ts r ended = end_of done count read rest behind ts r.others r.count_is r.joined r.rest_is ended

-- a value has one of the types
pub known_kind : (t : Tree) (kind : ℕ) → kind ≡ kind_of t → (kind ≡ 43 → ⊥) → (kind ≡ 45 → ⊥) → (kind ≡ 58 → ⊥) → (kind ≡ 36 → ⊥) → (kind ≡ 42 → ⊥) → ⊥
known_kind (simple x) kind is a b c d e = a is
known_kind (fault x) kind is a b c d e = b is
known_kind (whole x) kind is a b c d e = c is
known_kind (bulk x) kind is a b c d e = d is
known_kind null_bulk kind is a b c d e = d is
known_kind (list x) kind is a b c d e = e is
known_kind null_list kind is a b c d e = e is

-- a text is found as a whole
read_whole : (bytes rest after : List ℕ) (found : Option Tree) → Finds 8 rest after found → rest ≡ bytes
    → (t : Tree) → IsShowable 8 t → bytes ≡ text t → found ≡ Some t
read_whole bytes rest after found finds same t h is = (finds t [] h (same ∙ is ∙ sym (append-nil (text t)))).0

-- no value stands in front
pub none_found : (bytes rest after : List ℕ) (found : Option Tree) → Finds 8 rest after found → rest ≡ bytes → found ≡ None → IsReadBack bytes None
none_found bytes rest after found finds same missing = record {
  spells = tt;
  finds = λ t h is. sym missing ∙ read_whole bytes rest after found finds same t h is;
}

-- a value was found, and spells the text
pub some_found : (bytes rest after : List ℕ) (found : Option Tree) (v : Tree) → Finds 8 rest after found → rest ≡ bytes → found ≡ Some v
    → (is_plain_tree v ≡ true) × (bytes ≡ text v) → IsReadBack bytes (Some v)
some_found bytes rest after found v finds same have spelled = record {
  spells = spelled;
  finds = λ t h is. sym have ∙ read_whole bytes rest after found finds same t h is;
}

-- a value was found, and doesn't spell it
pub other_found : (bytes rest after : List ℕ) (found : Option Tree) (v : Tree) → Finds 8 rest after found → rest ≡ bytes → found ≡ Some v
    → ((is_plain_tree v ≡ true) × (bytes ≡ text v) → ⊥) → IsReadBack bytes None
other_found bytes rest after found v finds same have other = record {
  spells = tt;
  finds = λ t h is.
      let both : Some v ≡ Some t = sym have ∙ read_whole bytes rest after found finds same t h is in
      let it : t ≡ v = cc in
      absurd (other (ap is_plain_tree (sym it) ∙ plain_showable 8 t h, is ∙ ap text it));
}
