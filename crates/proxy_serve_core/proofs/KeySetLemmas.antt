-- The bits of a set of keys.
use Rattle.std.proofs.Common.{◌≡◌, ◌≢◌, ◌⊎◌, ◌↔◌, ℕ, ◌+◌, ◌-◌, ◌*◌, ◌/◌, ◌%◌, ◌^◌, ◌<◌, ◌≤◌, max, List, length, get_or, set, bit_and, bit_or, w64, sym, ap, ◌∙◌, inl, inr, arith, get_or-set_same, get_or-set_other}
use Rattle.std.specs.Prelude.{Option, Some, None, IfSome, IfNone}
use Rattle.std.specs.Int.{bit_at, bit_not, trailing_zeros}
use Rattle.std.proofs.lemmas.Bool.{cases_eq, cases_lt}
use Rattle.std.proofs.lemmas.List.{get_or_past}
use Rattle.std.proofs.lemmas.Nat.{shr-shr}
use Rattle.std.proofs.lemmas.Nat.Bits.{bit_at-zero, bit_at-lt, bit_at_or, bit_at_above, bit_at-trailing_zeros, bit_at_set_same, bit_at_set_other, bit_at_clear_same, bit_at_clear_other}
use Rattle.proxy_serve_core.specs.KeySet.{AddsKey, AddsKeysOfWord, DropsKey, Has, HasNone, IsNext, JoinsKeys}

-- the bit of a key
abbrev bit_of : List ℕ → ℕ → ℕ
bit_of words key = bit_at (get_or words (key / 64) 0) (key % 64)

-- ONE WORD CHANGES

module _ (words : List ℕ) (key word : ℕ) (within : key / 64 < length words) where
  here : bit_of (set words (key / 64) word) key ≡ bit_at word (key % 64)
  here = ap (λ n. bit_at n (key % 64)) (get_or-set_same words (key / 64) word 0 within)

  -- where the word keeps its other bits, so do the words
  elsewhere : ((i : ℕ) → i < 64 → i ≢ key % 64 → bit_at word i ≡ bit_at (get_or words (key / 64) 0) i)
      → (other : ℕ) → other ≢ key → bit_of (set words (key / 64) word) other ≡ bit_of words other
  elsewhere kept other differs =
      elim (cases_eq (other / 64) (key / 64)) [
        | inl same ↦ rw (same, get_or-set_same words (key / 64) word 0 within) (kept (other % 64) (omega arith) (λ index. differs (omega arith)))
        | inr apart ↦ ap (λ n. bit_at n (other % 64)) (get_or-set_other words (key / 64) (other / 64) word 0 apart)
      ]

module _ (words : List ℕ) (key : ℕ) (within : key / 64 < length words) where
  pub adds_key : AddsKey key words (set words (key / 64) (bit_or (get_or words (key / 64) 0) (1 * 2 ^ (key % 64) % 2 ^ 64)))
  adds_key other =
      let index : key % 64 < 64 = omega arith in
      let old = get_or words (key / 64) 0 in
      let set_here = here words key _ within ∙ bit_at_set_same w64 old (key % 64) index in
      let others = elsewhere words key _ within (λ i below differs. bit_at_set_other w64 old (key % 64) index i differs) in
      elim (cases_eq other key) [
        | inl same ↦ (λ _. inr same, λ _. rw same set_here)
        | inr differs ↦ (
          λ has. inl (sym (others other differs) ∙ has),
          λ h. elim h [
            | inl has ↦ others other differs ∙ has
            | inr same ↦ absurd (differs same)
          ],
        )
      ]

  pub drops_key : DropsKey key words (set words (key / 64) (bit_and (get_or words (key / 64) 0) (bit_not w64 (1 * 2 ^ (key % 64) % 2 ^ 64))))
  drops_key other =
      let index : key % 64 < 64 = omega arith in
      let old = get_or words (key / 64) 0 in
      let clear_here = here words key _ within ∙ bit_at_clear_same w64 old (key % 64) index in
      let others = elsewhere words key _ within (λ i below differs. bit_at_clear_other w64 old (key % 64) index i below differs) in
      elim (cases_eq other key) [
        | inl same ↦ (λ has. absurd (omega (arith, clear_here, rw same at has)), λ h. absurd (h.1 same))
        | inr differs ↦ (λ has. (sym (others other differs) ∙ has, differs), λ h. others other differs ∙ h.0)
      ]

-- the set has no key past its words
pub none_past : (words : List ℕ) (key : ℕ) → length words ≤ key / 64 → ¬ (Has words key)
none_past words key past has = omega (arith, has, ap (λ n. bit_at n (key % 64)) (get_or_past words (key / 64) 0 past), bit_at-zero (key % 64))

pub drops_none : (words : List ℕ) (key : ℕ) → length words ≤ key / 64 → DropsKey key words words
drops_none words key past other = (λ has. (has, λ same. none_past words key past (rw same at has)), λ h. h.0)

-- UNIONS

one_of : (x y : ℕ) → x < 2 → y < 2 → (max x y ≡ 1) ↔ ((x ≡ 1) ⊎ (y ≡ 1))
one_of x y small_x small_y = (
  λ one. elim (cases_eq x 1) [ inl is ↦ inl is | inr differs ↦ inr (omega arith) ],
  λ h. elim h [ inl is ↦ omega arith | inr is ↦ omega arith ],
)

module _ (one two both : List ℕ) (joined : (j : ℕ) → j < length two → get_or both j 0 ≡ bit_or (get_or one j 0) (get_or two j 0)) (rest : (j : ℕ) → length two ≤ j → get_or both j 0 ≡ get_or one j 0) where
  pub joins_keys : JoinsKeys one two both
  joins_keys key =
      elim (cases_lt (key / 64) (length two)) [
        | inl within ↦
            let is : bit_of both key ≡ max (bit_of one key) (bit_of two key) =
            ap (λ n. bit_at n (key % 64)) (joined (key / 64) within) ∙ bit_at_or (get_or one (key / 64) 0) (get_or two (key / 64) 0) (key % 64) in
            let cases = one_of (bit_of one key) (bit_of two key) (bit_at-lt (get_or one (key / 64) 0) (key % 64)) (bit_at-lt (get_or two (key / 64) 0) (key % 64)) in
            (λ has. cases.0 (sym is ∙ has), λ h. is ∙ cases.1 h)
        | inr past ↦
            let is : bit_of both key ≡ bit_of one key = ap (λ n. bit_at n (key % 64)) (rest (key / 64) past) in
            (λ has. inl (sym is ∙ has), λ h. elim h [ inl has ↦ is ∙ has | inr has ↦ absurd (none_past two key past has) ])
      ]

module _ (words : List ℕ) (index bits : ℕ) (within : index < length words) where
  pub adds_word : AddsKeysOfWord index bits words (set words index (bit_or (get_or words index 0) bits))
  adds_word key =
      elim (cases_eq (key / 64) index) [
        | inl same ↦
            let is : bit_of (set words index (bit_or (get_or words index 0) bits)) key ≡ max (bit_of words key) (bit_at bits (key % 64)) =
            rw (same, get_or-set_same words index (bit_or (get_or words index 0) bits) 0 within) (bit_at_or (get_or words index 0) bits (key % 64)) in
            let cases = one_of (bit_of words key) (bit_at bits (key % 64)) (bit_at-lt (get_or words (key / 64) 0) (key % 64)) (bit_at-lt bits (key % 64)) in (
              λ has. elim (cases.0 (sym is ∙ has)) [ inl old ↦ inl old | inr new ↦ inr (same, new) ],
              λ h. is ∙ cases.1 (elim h [ inl old ↦ inl old | inr new ↦ inr new.1 ]),
            )
        | inr apart ↦
            let is : bit_of (set words index (bit_or (get_or words index 0) bits)) key ≡ bit_of words key =
            ap (λ n. bit_at n (key % 64)) (get_or-set_other words index (key / 64) (bit_or (get_or words index 0) bits) 0 apart) in (
              λ has. inl (sym is ∙ has),
              λ h. elim h [ inl old ↦ is ∙ old | inr new ↦ absurd (apart new.0) ],
            )
      ]

-- THE NEXT KEY

-- the bits of a word that was shifted
shifted : (word k i : ℕ) → bit_at (word / 2 ^ k) i ≡ bit_at word (k + i)
shifted word k i = ap (λ x. x % 2) (shr-shr word k i)

module _ (words : List ℕ) (from : ℕ) where
  -- a key of the same word, by the rest of that word
  by_rest : (other : ℕ) → from ≤ other → other / 64 ≡ from / 64 → bit_of words other ≡ bit_at (get_or words (from / 64) 0 / 2 ^ (from % 64)) (other - from)
  by_rest other above same =
      let place : other % 64 ≡ from % 64 + (other - from) = omega arith in
      rw (same, place) (sym (shifted (get_or words (from / 64) 0) (from % 64) (other - from)))

  -- the rest of a word has no bits: the least key comes behind the word
  pub none_in_rest : get_or words (from / 64) 0 / 2 ^ (from % 64) ≡ 0 → (other : ℕ) → from ≤ other → other < 64 * (from / 64) + 64 → ¬ (Has words other)
  none_in_rest empty other above below has =
      let zero : bit_of words other ≡ 0 = by_rest other above (omega arith) ∙ ap (λ n. bit_at n (other - from)) empty ∙ bit_at-zero (other - from) in
      omega (arith, zero, has)

  module _ (fits : get_or words (from / 64) 0 < 2 ^ 64) (smaller : get_or words (from / 64) 0 / 2 ^ (from % 64) < 2 ^ 64) (some : 0 < get_or words (from / 64) 0 / 2 ^ (from % 64)) where
    lowest_in_word : from % 64 + trailing_zeros w64 (get_or words (from / 64) 0 / 2 ^ (from % 64)) < 64
    lowest_in_word =
        let word = get_or words (from / 64) 0 in
        let zeros = trailing_zeros w64 (word / 2 ^ (from % 64)) in
        let one : bit_at word (from % 64 + zeros) ≡ 1 = sym (shifted word (from % 64) zeros) ∙ (bit_at-trailing_zeros w64 (word / 2 ^ (from % 64)) some smaller).1 in
        elim (cases_lt (from % 64 + zeros) 64) [
          | inl within ↦ within
          | inr past ↦ absurd (omega (arith, one, bit_at_above word 64 (from % 64 + zeros) fits past))
        ]

    pub next_in_rest : IsNext words from (from + trailing_zeros w64 (get_or words (from / 64) 0 / 2 ^ (from % 64)))
    next_in_rest =
        let word = get_or words (from / 64) 0 in
        let zeros = trailing_zeros w64 (word / 2 ^ (from % 64)) in
        let lowest = bit_at-trailing_zeros w64 (word / 2 ^ (from % 64)) some smaller in
        let within = lowest_in_word in
        record {
          reached = omega arith;
          has = by_rest (from + zeros) (omega arith) (omega (arith, within)) ∙ rw (let d : from + zeros - from ≡ zeros = omega arith in d) lowest.1;
          least = λ other above below has.
              let zero = by_rest other above (omega (arith, within)) ∙ lowest.2 (other - from) (omega arith) in
              omega (arith, zero, has);
        }

    -- the key stands in the same word
    pub stays_in_word : (from + trailing_zeros w64 (get_or words (from / 64) 0 / 2 ^ (from % 64))) / 64 ≡ from / 64
    stays_in_word = omega (arith, lowest_in_word)

module _ (words : List ℕ) (from next : ℕ) (none : (key : ℕ) → from ≤ key → key < 64 * next → ¬ (Has words key)) where
  -- a word of zeros has no key
  pub none_in_word : get_or words next 0 ≡ 0 → (key : ℕ) → from ≤ key → key < 64 * (next + 1) → ¬ (Has words key)
  none_in_word empty key above below has =
      elim (cases_lt key (64 * next)) [
        | inl before ↦ none key above before has
        | inr inside ↦
            let word : key / 64 ≡ next = omega arith in
            let zero : bit_of words key ≡ 0 = rw (word, empty) (bit_at-zero (key % 64)) in
            omega (arith, zero, has)
      ]

  pub next_in_word : from ≤ 64 * next → 0 < get_or words next 0 → get_or words next 0 < 2 ^ 64
      → IsNext words from (next * 64 + trailing_zeros w64 (get_or words next 0))
  next_in_word above some fits =
      let word = get_or words next 0 in
      let zeros = trailing_zeros w64 word in
      let lowest = bit_at-trailing_zeros w64 word some fits in
      let at : (next * 64 + zeros) / 64 ≡ next = omega (arith, lowest.0) in
      let index : (next * 64 + zeros) % 64 ≡ zeros = omega (arith, lowest.0) in
      record {
        reached = omega arith;
        has = rw (at, index) lowest.1;
        least = λ other above below has.
            elim (cases_lt other (64 * next)) [
              | inl before ↦ none other above before has
              | inr inside ↦
                  let same : other / 64 ≡ next = omega (arith, lowest.0) in
                  let zero : bit_of words other ≡ 0 = rw same (lowest.2 (other % 64) (omega (arith, lowest.0))) in
                  omega (arith, zero, has)
            ];
      }

-- the words end: no key is left
pub none_left : (words : List ℕ) (from next : ℕ) → ((key : ℕ) → from ≤ key → key < 64 * next → ¬ (Has words key)) → length words ≤ next → HasNone words from
none_left words from next none past key above has =
    elim (cases_lt key (64 * next)) [
      | inl before ↦ none key above before has
      | inr behind ↦ none_past words key (omega arith) has
    ]

-- the next key, or none, of a later number, where none stands before that
pub next_later : (words : List ℕ) (from later key : ℕ) → from ≤ later → ((other : ℕ) → from ≤ other → other < later → ¬ (Has words other))
    → IsNext words later key → IsNext words from key
next_later words from later key above none n = record {
  reached = omega (arith, n.reached);
  has = n.has;
  least = λ other reached below has.
      elim (cases_lt other later) [
        | inl before ↦ none other reached before has
        | inr behind ↦ n.least other behind below has
      ];
}

pub none_later : (words : List ℕ) (from later : ℕ) → ((other : ℕ) → from ≤ other → other < later → ¬ (Has words other))
    → HasNone words later → HasNone words from
none_later words from later none n key above has =
    elim (cases_lt key later) [
      | inl before ↦ none key above before has
      | inr behind ↦ n key behind has
    ]

pub found_later : (words : List ℕ) (from later : ℕ) → from ≤ later → ((other : ℕ) → from ≤ other → other < later → ¬ (Has words other))
    → (result : Option ℕ) → IfSome result (IsNext words later) → IfSome result (IsNext words from)
found_later words from later above none None found = found
found_later words from later above none (Some key) found = next_later words from later key above none found

pub none_found_later : (words : List ℕ) (from later : ℕ) → ((other : ℕ) → from ≤ other → other < later → ¬ (Has words other))
    → (result : Option ℕ) → IfNone result (HasNone words later) → IfNone result (HasNone words from)
none_found_later words from later none None found = none_later words from later none found
none_found_later words from later none (Some key) found = found
