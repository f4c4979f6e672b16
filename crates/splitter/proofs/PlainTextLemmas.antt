-- What the proxy answers itself, and what it joins, can be written: it has no CR and no LF in a line.
use Rattle.std.proofs.Common.{◌≡◌, ◌++◌, ◌&&◌, ◌+◌, ◌%◌, ◌/◌, ◌==◌, ℕ, zero, suc, ◌≤◌, Bool, true, false, not, ltb, List, [], ◌∷◌, Option, Some, None, map, take, find, count_by, decimal, ne_eqb, length, inl, inr, refl, ◌∙◌, subst, arith, codes}
use Rattle.std.specs.List.{list_all}
use Rattle.std.specs.Fmt.{digits, digits_onto, digit_glyph}
use Rattle.std.proofs.lemmas.Bool.{cases_Bool, and_parts}
use Rattle.std.proofs.lemmas.Bool.Decides.{leb_tells}
use Rattle.std.proofs.lemmas.List.Folds.{list_all-append}
use Rattle.resp_core.specs.Tree.{Tree, simple, fault, whole, bulk, null_bulk, list, null_list, trees_of, is_text_byte, is_plain_tree, are_plain_trees}
use Rattle.resp_core.specs.ValueLimits.{is_long}
use Rattle.resp_core.specs.Command.{is_command, words_of, word}
use Rattle.command_table.specs.Names.{one_key_names}
use Rattle.command_table.specs.Table.{Row, rows, is_name, row_named}
use Rattle.command_table.specs.declared.Kind.{Kind}
use Rattle.command_table.specs.declared.Kind.TheVariants.{Ping, Echo, Quit, One, SplitGet, SplitSet, SplitSum}
use Rattle.splitter.specs.declared.plans.Join.TheVariants.{Same, Get, Set, Sum}
use Rattle.splitter.specs.Request.{read, broken}
use Rattle.splitter.specs.Plan.{shown_byte, shown_name, takes, plan_by, plan_by_row}
use Rattle.splitter.specs.Join.{in_place, is_done, is_whole, total, told_sum, unless_failed, finished_with, first_of}
use Rattle.splitter.specs.Split.{Words}
use Rattle.splitter.specs.Laws.{has_plain_value, PlanTextsArePlain, JoinsOfPlainValuesArePlain}

both : (x y : Bool) → x ≡ true → y ≡ true → (x && y) ≡ true
both x y e f = rw (e, f) refl

joined : (xs ys : List ℕ) → list_all is_text_byte xs ≡ true → list_all is_text_byte ys ≡ true → list_all is_text_byte (xs ++ ys) ≡ true
joined xs ys e f = list_all-append is_text_byte xs ys ∙ both _ _ e f

text_byte : (b : ℕ) → 32 ≤ b → is_text_byte b ≡ true
text_byte b l = rw (ne_eqb b 13 (λ e. omega (arith, e, l)), ne_eqb b 10 (λ e. omega (arith, e, l))) refl

shown_is_text : (b : ℕ) → is_text_byte (shown_byte b) ≡ true
shown_is_text b =
    elim (leb_tells 32 b) [
      | inl p ↦ elim (leb_tells b 126) [ inl q ↦ rw (p.0, q.0) (text_byte b p.1) | inr q ↦ rw (p.0, q.0) refl ]
      | inr p ↦ rw p.0 refl
    ]

all_shown : (bs : List ℕ) → list_all is_text_byte (map shown_byte bs) ≡ true
all_shown [] = refl
all_shown (b ∷ bs) = both (is_text_byte (shown_byte b)) (list_all is_text_byte (map shown_byte bs)) (shown_is_text b) (all_shown bs)

-- the names of the table are plain: each is computed here
plain_names : list_all (λ r. list_all is_text_byte r.name) rows ≡ true
unfolding rows one_key_names
plain_names = refl

-- the row that a search finds passes what all rows pass
found_passes : (p q : Row → Bool) (rs : List Row) (r : Row) → list_all q rs ≡ true → find p rs ≡ Some r → q r ≡ true
found_passes p q [] r h e = absurd cc
found_passes p q (x ∷ rs) r h e =
    let parts = and_parts (q x) (list_all q rs) h in
    elim (cases_Bool (p x)) [
      | inl f ↦ let g : Some x ≡ Some r = rw f at e in let is : x ≡ r = cc in subst (λ (z : Row). q z ≡ true) is parts.0
      | inr f ↦ found_passes p q rs r parts.1 (rw f at e)
    ]

plain_by : (kind : Kind) (r : Row) (words : Words) → has_plain_value (plan_by kind r words) ≡ true
plain_by Ping r words = refl
plain_by Echo r words = refl
plain_by Quit r words = refl
plain_by One r words = refl
plain_by SplitGet r words = refl
plain_by SplitSet r words = refl
plain_by SplitSum r words = refl

plain_by_row : (o : Option Row) (words : Words) → row_named (word words 0) ≡ o → has_plain_value (plan_by_row o words) ≡ true
plain_by_row None words e = joined (codes "unsupported command '") (shown_name (word words 0) ++ codes "'") refl (joined (shown_name (word words 0)) (codes "'") (all_shown (take 64 (word words 0))) refl)
plain_by_row (Some r) words e =
    elim (cases_Bool (takes r.kind r.least (length words))) [
      | inl f ↦ rw f (plain_by r.kind r words)
      | inr f ↦ rw f (joined (codes "wrong number of arguments for '") (r.name ++ codes "' command") refl (joined r.name (codes "' command") (found_passes (λ z. is_name (word words 0) z.name) (λ z. list_all is_text_byte z.name) rows r plain_names e) refl))
    ]

pub plan_texts_are_plain : PlanTextsArePlain
plan_texts_are_plain broken = refl
plan_texts_are_plain (read t) =
    elim (cases_Bool (is_command t)) [
      | inl f ↦ rw f (plain_by_row (row_named (word (words_of t) 0)) (words_of t) refl)
      | inr f ↦ rw f refl
    ]

-- a number in decimal has digits alone
plain_glyph : (d : ℕ) → is_text_byte (digit_glyph false d) ≡ true
plain_glyph d =
    elim (cases_Bool (ltb d 10)) [
      | inl f ↦ rw f (text_byte (48 + d) (omega arith))
      | inr f ↦ rw f (text_byte (87 + d) (omega arith))
    ]

plain_digits : (k n : ℕ) (acc : List ℕ) → list_all is_text_byte acc ≡ true → list_all is_text_byte (digits_onto k 10 false n acc) ≡ true
plain_digits zero n acc h = h
plain_digits (suc k) n acc h =
    let more = both (is_text_byte (digit_glyph false (n % 10))) (list_all is_text_byte acc) (plain_glyph (n % 10)) h in
    elim (cases_Bool (n / 10 == 0)) [
      | inl f ↦ rw f more
      | inr f ↦ rw f (plain_digits k (n / 10) (digit_glyph false (n % 10) ∷ acc) more)
    ]

plain_decimal : (n : ℕ) → list_all is_text_byte (decimal n) ≡ true
unfolding digits
plain_decimal n = plain_digits 64 n [] refl

plain_finished : (n : ℕ) → is_plain_tree (finished_with n) ≡ true
plain_finished n =
    joined (codes "finished with " ++ decimal n) (codes " error(s)") (joined (codes "finished with ") (decimal n) refl (plain_decimal n)) refl

plain_unless : (n : ℕ) (t : Tree) → is_plain_tree t ≡ true → is_plain_tree (unless_failed n t) ≡ true
plain_unless n t h =
    elim (cases_Bool (n == 0)) [
      | inl f ↦ rw f h
      | inr f ↦ rw f (plain_finished n)
    ]

plain_in_place : (t : Tree) → is_plain_tree t ≡ true → is_plain_tree (in_place t) ≡ true
plain_in_place (simple s) h = refl
plain_in_place (fault s) h = h
plain_in_place (whole n) h = refl
plain_in_place (bulk s) h = refl
plain_in_place null_bulk h = refl
plain_in_place (list ts) h = refl
plain_in_place null_list h = refl

plain_in_places : (ts : List Tree) → list_all is_plain_tree ts ≡ true → are_plain_trees (trees_of (map in_place ts)) ≡ true
plain_in_places [] h = refl
plain_in_places (t ∷ ts) h =
    let p = and_parts (is_plain_tree t) (list_all is_plain_tree ts) h in
    both (is_plain_tree (in_place t)) (are_plain_trees (trees_of (map in_place ts))) (plain_in_place t p.0) (plain_in_places ts p.1)

plain_first : (ts : List Tree) → list_all is_plain_tree ts ≡ true → is_plain_tree (first_of ts) ≡ true
plain_first [] h = refl
plain_first (t ∷ ts) h = (and_parts (is_plain_tree t) (list_all is_plain_tree ts) h).0

pub joins_of_plain_values_are_plain : JoinsOfPlainValuesArePlain
joins_of_plain_values_are_plain Same ts h = plain_first ts h
joins_of_plain_values_are_plain Get ts h = plain_in_places ts h
joins_of_plain_values_are_plain Set ts h = plain_unless (count_by (λ t. not (is_done t)) ts) (simple (codes "OK")) refl
joins_of_plain_values_are_plain Sum ts h =
    plain_unless (count_by (λ t. not (is_whole t)) ts) (told_sum (total ts))
    (elim (cases_Bool (is_long (total ts))) [ inl f ↦ rw f refl | inr f ↦ rw f refl ])
