-- What holds of the rows of the table.
use Rattle.std.proofs.Common.{◌≡◌, ◌≢◌, ◌<◌, ℕ, zero, suc, List, [], ◌∷◌, Bool, true, false, not, ◌&&◌, Option, Some, None, IfSome, IfNone, MatchOption, All, Contains, find, length, map, get_or, inl, inr, refl, sym, ap, ◌∙◌, subst, arith}
use Rattle.std.specs.List.{list_any}
use Rattle.std.specs.Option.{option_map, option_or}
use Rattle.std.specs.Str.{str_to_ascii_lowercase, bytes_eq}
use Rattle.std.proofs.lemmas.Bool.{cases_Bool, and_parts, not-true}
use Rattle.std.proofs.lemmas.List.{length-map, get_or-map, get_or_default}
use Rattle.std.proofs.lemmas.Bool.Decides.{leb_tells}
use Rattle.std.proofs.lemmas.List.Folds.{list_any_at, find-append}
use Rattle.std.proofs.lemmas.Slice.Eq.{bytes_eq-Decides}
use Rattle.command_table.specs.declared.Entry.{Entry}
use Rattle.command_table.specs.declared.Kind.TheVariants.{Ping}
use Rattle.command_table.specs.Names.{one_key_names}
use Rattle.command_table.specs.Table.{Row, row, rows, own_rows, one_key_row, is_name, row_in, row_named}
use Rattle.command_table.specs.Entry.{row_of}
use Rattle.command_table.specs.Laws.{NamesAreDistinct, NamesAreLowerCase, EachRowIsFound, FoundStandsInTable}

-- an entry of no name, for a place past the end
abbrev pub unnamed : Entry
unnamed = record { kind = Ping; name = record { ref_ptr = (0, 0); now = [] }; least = 0; key_at = 0 }

abbrev no_row : Row
no_row = row Ping [] 0 0

-- what a search finds passes its test, and stands in the list
found_is : (p : Row → Bool) (rs : List Row) (r : Row) → find p rs ≡ Some r → Contains rs r × (p r ≡ true)
found_is p [] r e = absurd cc
found_is p (x ∷ rs) r e =
    elim (cases_Bool (p x)) [
      | inl f ↦
          let g : Some x ≡ Some r = rw f at e in
          let is : x ≡ r = cc in ((0, omega arith, is), subst (λ (z : Row). p z ≡ true) is f)
      | inr f ↦ let ((k, within, is), passes) = found_is p rs r (rw f at e) in ((suc k, omega (arith, within), is), passes)
    ]

-- where a search finds nothing, nothing passes
none_passes : (p : Row → Bool) (rs : List Row) → find p rs ≡ None → All (λ r. p r ≡ false) rs
none_passes p [] e = λ k d l. absurd (omega (arith, l))
none_passes p (x ∷ rs) e =
    elim (cases_Bool (p x)) [
      | inl f ↦ let g : Some x ≡ None = rw f at e in absurd cc
      | inr f ↦ none_of_more f (none_passes p rs (rw f at e))
    ]
  where
    none_of_more : p x ≡ false → All (λ r. p r ≡ false) rs → All (λ r. p r ≡ false) (x ∷ rs)
    none_of_more f h zero d l = f
    none_of_more f h (suc k) d l = h k d (omega (arith, l))

-- the table's names are in lower case: each is computed here
lower_names : map (λ r. str_to_ascii_lowercase r.name) rows ≡ map (λ r. r.name) rows
unfolding rows one_key_names
lower_names = refl

lower_name : (k : ℕ) (r : Row) → k < length rows → str_to_ascii_lowercase (get_or rows k r).name ≡ (get_or rows k r).name
lower_name k r l =
    sym (get_or-map (λ (r : Row). str_to_ascii_lowercase r.name) rows k r (str_to_ascii_lowercase r.name) l) ∙ ap (λ z. get_or z k (str_to_ascii_lowercase r.name)) lower_names
    ∙ get_or-map (λ (r : Row). r.name) rows k r (str_to_ascii_lowercase r.name) l

pub names_are_lower_case : NamesAreLowerCase
names_are_lower_case k r l = lower_name k r l

lower_in : (r : Row) → Contains rows r → str_to_ascii_lowercase r.name ≡ r.name
lower_in r (k, within, is) = subst (λ (z : Row). str_to_ascii_lowercase z.name ≡ z.name) is (lower_name k r within)

-- a name that passes the test of a row's is that row's name, in lower case
named_as : (name : List ℕ) (r : Row) → Contains rows r → is_name name r.name ≡ true → str_to_ascii_lowercase name ≡ r.name
named_as name r h e = (bytes_eq-Decides (str_to_ascii_lowercase name) (str_to_ascii_lowercase r.name)).0 e ∙ lower_in r h

-- and the other way round
passes_as : (name : List ℕ) (r : Row) → Contains rows r → str_to_ascii_lowercase name ≡ r.name → is_name name r.name ≡ true
passes_as name r h e = (bytes_eq-Decides (str_to_ascii_lowercase name) (str_to_ascii_lowercase r.name)).1 (e ∙ sym (lower_in r h))

pub found_stands_in_table : FoundStandsInTable
found_stands_in_table r name e =
    let (h, p) = found_is (λ z. is_name name z.name) rows r e in (h, named_as name r h p)

-- no name stands again behind itself
abbrev are_distinct : List (List ℕ) → Bool
are_distinct [] = true
are_distinct (n ∷ ns) = not (list_any (bytes_eq n) ns) && are_distinct ns

-- the names are distinct: each is compared with each behind it here
distinct_names : are_distinct (map (λ r. r.name) rows) ≡ true
unfolding rows one_key_names
distinct_names = refl

distinct_at : (ns : List (List ℕ)) (j k : ℕ) (d : List ℕ) → are_distinct ns ≡ true → j < k → k < length ns → get_or ns j d ≢ get_or ns k d
distinct_at [] j k d h less l e = absurd (omega (arith, l))
distinct_at (n ∷ ns) zero zero d h less l e = absurd (omega (arith, less))
distinct_at (n ∷ ns) zero (suc k) d h less l e =
    let none : list_any (bytes_eq n) ns ≡ false = not-true (list_any (bytes_eq n) ns) (and_parts (not (list_any (bytes_eq n) ns)) (are_distinct ns) h).0 in
    let some : list_any (bytes_eq n) ns ≡ true = list_any_at (bytes_eq n) ns k d (omega (arith, l)) ((bytes_eq-Decides n (get_or ns k d)).1 e) in
    let both : false ≡ true = sym none ∙ some in absurd cc
distinct_at (n ∷ ns) (suc j) zero d h less l e = absurd (omega (arith, less))
distinct_at (n ∷ ns) (suc j) (suc k) d h less l e =
    distinct_at ns j k d (and_parts (not (list_any (bytes_eq n) ns)) (are_distinct ns) h).1 (omega (arith, less)) (omega (arith, l)) e

apart : (j k : ℕ) (r : Row) → j < k → k < length rows → (get_or rows j r).name ≢ (get_or rows k r).name
apart j k r less l e =
    distinct_at (map (λ z. z.name) rows) j k r.name distinct_names less (omega (arith, l, length-map rows (λ (z : Row). z.name)))
    (get_or-map (λ (z : Row). z.name) rows j r r.name (omega (arith, less, l)) ∙ e ∙ sym (get_or-map (λ (z : Row). z.name) rows k r r.name l))

pub names_are_distinct : NamesAreDistinct
names_are_distinct j k r lj lk e =
    elim (leb_tells (suc j) k) [
      | inl p ↦ absurd (apart j k r p.1 lk e)
      | inr p ↦ elim (leb_tells (suc k) j) [ inl q ↦ absurd (apart k j r q.1 lj (sym e)) | inr q ↦ omega (arith, p.1, q.1) ]
    ]

-- rows of the same name are one
one_row : (r s : Row) → Contains rows r → Contains rows s → r.name ≡ s.name → r ≡ s
one_row r s (j, j_within, j_is) (k, k_within, k_is) e =
    let at : get_or rows k r ≡ s = get_or_default rows k r s k_within ∙ k_is in
    let same : j ≡ k = names_are_distinct j k r j_within k_within (ap (λ z. z.name) j_is ∙ e ∙ sym (ap (λ z. z.name) at)) in
    sym j_is ∙ ap (λ z. get_or rows z r) same ∙ at

found_row : (o : Option Row) (r : Row) (name : List ℕ) → row_named name ≡ o → Contains rows r → str_to_ascii_lowercase name ≡ r.name → o ≡ Some r
found_row None r name e h f =
    let (k, within, is) = h in
    let none : is_name name r.name ≡ false = subst (λ (z : Row). is_name name z.name ≡ false) is (none_passes (λ z. is_name name z.name) rows e k r within) in
    let both : false ≡ true = sym none ∙ passes_as name r h f in absurd cc
found_row (Some s) r name e h f =
    let (g, p) = found_stands_in_table s name e in ap Some (one_row s r g h (sym p ∙ f))

pub each_row_is_found : EachRowIsFound
each_row_is_found r name h f = found_row (row_named name) r name refl h f

-- the two other clauses of a look-up follow from the row that it finds
pub found_in_table : (o : Option Entry) (name : List ℕ) → option_map row_of o ≡ row_named name → IfSome o (λ e. Contains rows (row_of e) × (str_to_ascii_lowercase name ≡ e.name.now))
found_in_table None name e = tt
found_in_table (Some x) name e = found_stands_in_table (row_of x) name (sym e)

pub unknown_in_table : (o : Option Entry) (name : List ℕ) → option_map row_of o ≡ row_named name → IfNone o (All (λ r. str_to_ascii_lowercase name ≢ r.name) rows)
unknown_in_table None name e = λ k r l f.
    let h : Contains rows (get_or rows k r) = (k, l, get_or_default rows k (get_or rows k r) r l) in
    let both : false ≡ true = sym (none_passes (λ z. is_name name z.name) rows (sym e) k r l) ∙ passes_as name (get_or rows k r) h f in absurd cc
unknown_in_table (Some x) name e = tt

-- the row of a name is the one with numbers of its own, if there is one, and else the one of a command with one key
pub row_named-own : (name : List ℕ) (o : Option Row) → row_in own_rows name ≡ o → row_named name ≡ option_or o (row_in (map one_key_row one_key_names) name)
unfolding rows
row_named-own name o e =
    find-append (λ (r : Row). is_name name r.name) own_rows (map one_key_row one_key_names) ∙ ap (λ z. option_or z (row_in (map one_key_row one_key_names) name)) e

pub row_named-or_else : {P : Type 0} (name : List ℕ) (o r : Option Entry) → (P → option_map row_of r ≡ row_in (map one_key_row one_key_names) name) → option_map row_of o ≡ row_in own_rows name → MatchOption o P (λ x. r ≡ Some x) → option_map row_of r ≡ row_named name
row_named-or_else name None r h e f = h f ∙ sym (row_named-own name None (sym e))
row_named-or_else name (Some x) r h e f = ap (option_map row_of) f ∙ sym (row_named-own name (Some (row_of x)) (sym e))
