-- The numbers by which some bytes are told.
use Rattle.std.proofs.Common.{◌≡◌, ℕ, ◌<◌, List, [], ◌∷◌, ◌++◌, length, refl, sym, subst, inl, arith, rules}
use Rattle.std.proofs.lemmas.List.{append_cancel_right}
use Rattle.resp_core.specs.declared.error.Refusal.{Refusal}
use Rattle.resp_core.specs.declared.error.Refusal.TheVariants.{BadType, BadLength, BadNumber, BadLineEnd, TooLong, TooDeep}
use Rattle.resp_core.specs.Offset.{refusal_number}
use Rattle.resp_core.specs.Grammar.{max_text, max_depth}
use Rattle.resp_core.specs.Refusals.{RefusedInLength, RefusedInLeaf, Fits, IsTold}
use Rattle.resp_core.specs.Reading.{unfinished, refused, byte_at, digits_at, null_end_at, count_at, bulk_at, many_at, text_at, integer_at, members_at, list_at, leaf_at, value_at}
use Rattle.resp_core.proofs.reading.WholeValueLemmas.{value-reads, InValue}
use Rattle.resp_core.proofs.refusals.ToldNumberLemmas.{told_by}

told : (most : ℕ) (came : List ℕ) (c : ℕ) (w : Refusal) → value_at most max_depth came ≡ unfinished → value_at most max_depth (came ++ c ∷ []) ≡ refused w (c ∷ []) → length came < max_text → IsTold most came c (refusal_number w)
told most came c w e f l =
    let q = (value-reads most max_depth).first (came ++ c ∷ []) (c ∷ []) w f in
    let byte_is : c ≡ q.byte = cc in
    let before_is : came ≡ q.before = append_cancel_right came q.before (c ∷ []) q.split in
    told_by most came c w e f (subst (λ (z : List ℕ). InValue most max_depth z c w) (sym before_is) (subst (λ (z : ℕ). InValue most max_depth q.before z w) (sym byte_is) q.place)) (λ m. absurd (omega (arith, m, l)))

-- ?
no_type : IsTold 1024 [] 63 102
unfolding value_at leaf_at byte_at
no_type = told 1024 [] 63 BadType refl refl (omega arith)

-- $ CR
no_digit : IsTold 1024 (36 ∷ []) 13 103
unfolding value_at leaf_at bulk_at count_at digits_at
no_digit = told 1024 (36 ∷ []) 13 BadLength refl refl (omega arith)

-- $-2
minus_two : IsTold 1024 (36 ∷ 45 ∷ []) 50 103
unfolding value_at leaf_at bulk_at count_at null_end_at byte_at
minus_two = told 1024 (36 ∷ 45 ∷ []) 50 BadLength refl refl (omega arith)

-- $-1x
minus_one_and_more : IsTold 1024 (36 ∷ 45 ∷ 49 ∷ []) 120 103
unfolding value_at leaf_at bulk_at count_at null_end_at byte_at
minus_one_and_more = told 1024 (36 ∷ 45 ∷ 49 ∷ []) 120 BadLength refl refl (omega arith)

-- $00001048577: the eleventh digit passes the limit too
abbrev ten_digits : List ℕ
ten_digits = 48 ∷ 48 ∷ 48 ∷ 48 ∷ 49 ∷ 48 ∷ 52 ∷ 56 ∷ 53 ∷ 55 ∷ []

eleventh_digit : IsTold 1024 (36 ∷ ten_digits) 55 103
unfolding value_at leaf_at bulk_at count_at digits_at
eleventh_digit = told 1024 (36 ∷ ten_digits) 55 BadLength refl refl (omega arith)

past_limit_too : Fits 1024 (36 ∷ ten_digits) 55 106
past_limit_too =
    inl (inl (RefusedInLeaf.in_length ten_digits refl (RefusedInLength.past_limit (search rules) (omega arith, omega arith) (omega arith))))

-- $1048577
past_bulk : IsTold 1024 (36 ∷ 49 ∷ 48 ∷ 52 ∷ 56 ∷ 53 ∷ 55 ∷ []) 55 106
unfolding value_at leaf_at bulk_at count_at digits_at
past_bulk = told 1024 (36 ∷ 49 ∷ 48 ∷ 52 ∷ 56 ∷ 53 ∷ 55 ∷ []) 55 TooLong refl refl (omega arith)

-- *1025, which a host may send
past_array : IsTold 1024 (42 ∷ 49 ∷ 48 ∷ 50 ∷ []) 53 106
unfolding value_at list_at count_at digits_at
past_array = told 1024 (42 ∷ 49 ∷ 48 ∷ 50 ∷ []) 53 TooLong refl refl (omega arith)

-- +OK LF
lone_lf : IsTold 1024 (43 ∷ 79 ∷ 75 ∷ []) 10 105
unfolding value_at leaf_at text_at
lone_lf = told 1024 (43 ∷ 79 ∷ 75 ∷ []) 10 BadLineEnd refl refl (omega arith)

-- +a CR b
no_lf : IsTold 1024 (43 ∷ 97 ∷ 13 ∷ []) 98 105
unfolding value_at leaf_at text_at byte_at
no_lf = told 1024 (43 ∷ 97 ∷ 13 ∷ []) 98 BadLineEnd refl refl (omega arith)

-- :- CR
sign_alone : IsTold 1024 (58 ∷ 45 ∷ []) 13 104
unfolding value_at leaf_at byte_at integer_at digits_at
sign_alone = told 1024 (58 ∷ 45 ∷ []) 13 BadNumber refl refl (omega arith)

-- $-1 CR x
null_and_no_lf : IsTold 1024 (36 ∷ 45 ∷ 49 ∷ 13 ∷ []) 120 105
unfolding value_at leaf_at bulk_at count_at null_end_at byte_at
null_and_no_lf = told 1024 (36 ∷ 45 ∷ 49 ∷ 13 ∷ []) 120 BadLineEnd refl refl (omega arith)

-- :9223372036854775808
out_of_range : IsTold 1024 (58 ∷ 57 ∷ 50 ∷ 50 ∷ 51 ∷ 51 ∷ 55 ∷ 50 ∷ 48 ∷ 51 ∷ 54 ∷ 56 ∷ 53 ∷ 52 ∷ 55 ∷ 55 ∷ 53 ∷ 56 ∷ 48 ∷ []) 56 104
unfolding value_at leaf_at byte_at integer_at digits_at
out_of_range = told 1024 (58 ∷ 57 ∷ 50 ∷ 50 ∷ 51 ∷ 51 ∷ 55 ∷ 50 ∷ 48 ∷ 51 ∷ 54 ∷ 56 ∷ 53 ∷ 52 ∷ 55 ∷ 55 ∷ 53 ∷ 56 ∷ 48 ∷ []) 56 BadNumber refl refl (omega arith)

-- nine times *1
abbrev one_member : List ℕ
one_member = 42 ∷ 49 ∷ 13 ∷ 10 ∷ []

abbrev eight_arrays : List ℕ
eight_arrays = one_member ++ one_member ++ one_member ++ one_member ++ one_member ++ one_member ++ one_member ++ one_member

ninth_array : IsTold 1024 eight_arrays 42 107
unfolding value_at leaf_at byte_at list_at members_at many_at count_at digits_at
ninth_array = told 1024 eight_arrays 42 TooDeep refl refl (omega arith)
