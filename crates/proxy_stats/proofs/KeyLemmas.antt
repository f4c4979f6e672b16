-- Keys of names, and how often a name came.
use Rattle.std.proofs.Common.{◌≡◌, ◌≢◌, ◌⊎◌, inl, inr, ℕ, ◌+◌, ◌<◌, ◌≤◌, List, [], ◌∷◌, ◌++◌, cond, get_or, length, refl, sym, ap, ◌∙◌, arith}
use Rattle.std.specs.Prelude.{true, false, ◌==◌, ◌&&◌, not}
use Rattle.std.specs.Char.{to_ascii_lowercase}
use Rattle.std.specs.Str.{bytes_eq}
use Rattle.std.proofs.lemmas.Bool.{cases_Bool, true≢false, and_parts, false_from_ne_true}
use Rattle.std.proofs.lemmas.Bool.Decides.{nat_tests}
use Rattle.std.proofs.lemmas.List.{get_or-replicate}
use Rattle.std.proofs.lemmas.List.FromFn.{get_or-map-range_with_len}
use Rattle.std.proofs.lemmas.List.Sums.{sum_by_push, AllPass-from_list_all}
use Rattle.std.proofs.lemmas.Slice.Eq.{bytes_eq-Decides}
use Rattle.proxy_stats.specs.RefusedNames.{is_shown, is_shown_byte, key_of, no_key, times}

-- ---- two keys

pub keys_differ_or_not : (a b : List ℕ) → (a ≡ b) ⊎ (a ≢ b)
keys_differ_or_not a b = elim (cases_Bool (bytes_eq a b)) [ inl is ↦ inl ((bytes_eq-Decides a b).0 is) | inr other ↦ inr (λ same. true≢false (sym ((bytes_eq-Decides a b).1 same) ∙ other)) ]

pub same_keys : (a b : List ℕ) → a ≡ b → bytes_eq a b ≡ true
same_keys a b same = (bytes_eq-Decides a b).1 same

pub other_keys : (a b : List ℕ) → a ≢ b → bytes_eq a b ≡ false
other_keys a b other = false_from_ne_true (bytes_eq a b) (λ is. other ((bytes_eq-Decides a b).0 is))

-- ---- a name's key

lower_zero : (b : ℕ) → to_ascii_lowercase b ≡ 0 → b ≡ 0
lower_zero b e = grind (arith, nat_tests)

shown_not_zero : (b : ℕ) → b ≡ 0 → is_shown_byte b ≡ true → ⊥
shown_not_zero b e shown = true≢false (sym shown ∙ ap is_shown_byte e)

some_length : (n : ℕ) → not (n == 0) ≡ true → 0 < n
some_length n e = grind (arith, nat_tests)

-- a name that can have a place has another key than a free place
pub shown_key : (name : List ℕ) → is_shown name ≡ true → key_of name ≢ no_key
unfolding key_of
shown_key name shown same =
    let some = and_parts _ _ (and_parts _ _ shown).0 in
    let long : 0 < length name = some_length (length name) some.0 in
    let first : to_ascii_lowercase (get_or name 0 0) ≡ 0 =
    sym (get_or-map-range_with_len (λ (i : ℕ). to_ascii_lowercase (get_or name i 0)) 0 32 0 0 0 (omega arith) (omega arith)) ∙ ap (λ l. get_or l 0 0) same ∙ get_or-replicate 32 0 0 0 (omega arith) in
    shown_not_zero (get_or name 0 0) (lower_zero (get_or name 0 0) first) (AllPass-from_list_all is_shown_byte name (and_parts _ _ shown).1 0 0 long)

-- ---- how often a name came

-- each name so often as before, and this one once more
abbrev pub IsOnceMore : (List ℕ → ℕ) → List ℕ → (List ℕ → ℕ) → Type 0
IsOnceMore T k T' = (key : List ℕ) → T' key ≡ T key + cond (bytes_eq k key) 1 0

pub once_more_same : (T : List ℕ → ℕ) (k : List ℕ) (T' : List ℕ → ℕ) (key : List ℕ) → IsOnceMore T k T' → k ≡ key → T' key ≡ T key + 1
once_more_same T k T' key more same = more key ∙ rw (same_keys k key same) refl

pub once_more_other : (T : List ℕ → ℕ) (k : List ℕ) (T' : List ℕ → ℕ) (key : List ℕ) → IsOnceMore T k T' → k ≢ key → T' key ≡ T key
once_more_other T k T' key more other = more key ∙ rw (other_keys k key other) (omega arith)

pub once_more_grows : (T : List ℕ → ℕ) (k : List ℕ) (T' : List ℕ → ℕ) (key : List ℕ) → IsOnceMore T k T' → T key ≤ T' key
once_more_grows T k T' key more = let e = more key in omega (arith, e)

pub times_more : (names : List (List ℕ)) (name : List ℕ) → is_shown name ≡ true → IsOnceMore (λ key. times key names) (key_of name) (λ key. times key (names ++ name ∷ []))
times_more names name shown key =
    sum_by_push (λ n. cond (is_shown n && bytes_eq (key_of n) key) 1 0) names name ∙ ap (λ b. times key names + cond (b && bytes_eq (key_of name) key) 1 0) shown

pub times_kept : (names : List (List ℕ)) (name : List ℕ) (key : List ℕ) → is_shown name ≡ false → times key (names ++ name ∷ []) ≡ times key names
times_kept names name key hidden =
    sum_by_push (λ n. cond (is_shown n && bytes_eq (key_of n) key) 1 0) names name
    ∙ ap (λ b. times key names + cond (b && bytes_eq (key_of name) key) 1 0) hidden
    ∙ omega arith
