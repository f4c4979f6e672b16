-- The tag of a key, and keys that have none.
use Rattle.std.proofs.Common.{◌≡◌, ◌≢◌, ℕ, Bool, true, false, eqb, ltb, ◌&&◌, cond, List, [], ◌∷◌, ◌++◌, length, refl, sym, ◌∙◌, ap, subst, Contains, IsTrue, suc, arith}
use Rattle.std.specs.List.{before_first, after_first, list_any}
use Rattle.std.proofs.lemmas.Bool.{lt-ltb, cond-false, and_right}
use Rattle.ketama.specs.Key.{IsSplitAt, IsTagOf, open_brace, close_brace, tag_or_key, point_of, point_of_bytes}
use Rattle.ketama.proofs.SplitLemmas.{before_first-split, after_first-split, list_any-split, list_any-absent, after_first-absent, Contains-split}

-- what is hashed, by what stands after the first `{`
abbrev tag_in : List ℕ → List ℕ → List ℕ
tag_in rest key = cond (list_any (λ b. eqb b close_brace) rest && ltb 0 (length (before_first (λ b. eqb b close_brace) rest))) (before_first (λ b. eqb b close_brace) rest) key

by_rest : (key rest : List ℕ) → after_first (λ b. eqb b open_brace) key ≡ rest → tag_or_key key ≡ tag_in rest key
by_rest key rest e = ap (λ rest. tag_in rest key) e

after_first-IsSplitAt : (byte : ℕ) (bytes before after : List ℕ) → IsSplitAt byte bytes before after → after_first (λ b. eqb b byte) bytes ≡ after
after_first-IsSplitAt byte bytes before after split = ap (after_first (λ b. eqb b byte)) split.parts ∙ after_first-split byte before after split.first

before_first-IsSplitAt : (byte : ℕ) (bytes before after : List ℕ) → IsSplitAt byte bytes before after → before_first (λ b. eqb b byte) bytes ≡ before
before_first-IsSplitAt byte bytes before after split = ap (before_first (λ b. eqb b byte)) split.parts ∙ before_first-split byte before after split.first

-- ---- what is hashed

pub tag_or_key-no_open : (key : List ℕ) → ¬ Contains key open_brace → tag_or_key key ≡ key
tag_or_key-no_open key absent = by_rest key [] (after_first-absent open_brace key absent)

pub tag_or_key-no_close : (key before rest : List ℕ) → IsSplitAt open_brace key before rest → ¬ Contains rest close_brace → tag_or_key key ≡ key
tag_or_key-no_close key before rest opens absent =
    by_rest key rest (after_first-IsSplitAt open_brace key before rest opens) ∙ rw (list_any-absent close_brace rest absent) refl

pub tag_or_key-empty : (key before rest tag after : List ℕ) → IsSplitAt open_brace key before rest → IsSplitAt close_brace rest tag after → tag ≡ [] → tag_or_key key ≡ key
tag_or_key-empty key before rest tag after opens closes empty =
    by_rest key rest (after_first-IsSplitAt open_brace key before rest opens) ∙ rw (before_first-IsSplitAt close_brace rest tag after closes ∙ empty) (cond-false _ [] key (and_right _ false refl))

nonempty_counted : (tag : List ℕ) → tag ≢ [] → ltb 0 (length tag) ≡ true
nonempty_counted [] nonempty = absurd (nonempty refl)
nonempty_counted (x ∷ tag) nonempty = lt-ltb 0 (suc (length tag)) (omega arith)

pub tag_or_key-IsTagOf : (key tag : List ℕ) → IsTagOf key tag → tag_or_key key ≡ tag
tag_or_key-IsTagOf key tag t =
    let rest = tag ++ close_brace ∷ t.after in
    by_rest key rest (ap (after_first (λ b. eqb b open_brace)) t.parts ∙ after_first-split open_brace t.before rest t.first_open)
    ∙ rw (list_any-split close_brace tag t.after, before_first-split close_brace tag t.after t.first_close, nonempty_counted tag t.nonempty) refl

pub IsTagOf-splits : (key before rest tag after : List ℕ) → IsSplitAt open_brace key before rest → IsSplitAt close_brace rest tag after → tag ≢ [] → IsTagOf key tag
IsTagOf-splits key before rest tag after opens closes nonempty = record {
  before = before;
  after = after;
  parts = opens.parts ∙ ap (λ bytes. before ++ open_brace ∷ bytes) closes.parts;
  first_open = opens.first;
  first_close = closes.first;
  nonempty = nonempty;
}

pub point_of-IsTagOf : (key : List ℕ) (tags : Bool) (tag : List ℕ) → IsTrue tags → IsTagOf key tag → point_of key tags ≡ point_of_bytes tag
point_of-IsTagOf key tags tag on t = ap (λ b. point_of key b) on ∙ ap point_of_bytes (tag_or_key-IsTagOf key tag t)

-- ---- keys that have no tag

pub no_tag-no_open : (key : List ℕ) → ¬ Contains key open_brace → (tag : List ℕ) → ¬ IsTagOf key tag
no_tag-no_open key absent tag t = absent (subst (λ bytes. Contains bytes open_brace) (sym t.parts) (Contains-split open_brace t.before (tag ++ close_brace ∷ t.after)))

rest_of_tagged : (key before rest tag : List ℕ) → IsSplitAt open_brace key before rest → (t : IsTagOf key tag) → rest ≡ tag ++ close_brace ∷ t.after
rest_of_tagged key before rest tag opens t =
    sym (after_first-IsSplitAt open_brace key before rest opens) ∙ ap (after_first (λ b. eqb b open_brace)) t.parts ∙ after_first-split open_brace t.before (tag ++ close_brace ∷ t.after) t.first_open

pub no_tag-no_close : (key before rest : List ℕ) → IsSplitAt open_brace key before rest → ¬ Contains rest close_brace → (tag : List ℕ) → ¬ IsTagOf key tag
no_tag-no_close key before rest opens absent tag t =
    absent (subst (λ bytes. Contains bytes close_brace) (sym (rest_of_tagged key before rest tag opens t)) (Contains-split close_brace tag t.after))

pub no_tag-empty : (key before rest tag after : List ℕ) → IsSplitAt open_brace key before rest → IsSplitAt close_brace rest tag after → tag ≡ [] → (other : List ℕ) → ¬ IsTagOf key other
no_tag-empty key before rest tag after opens closes empty other t =
    t.nonempty (sym (before_first-split close_brace other t.after t.first_close)
    ∙ ap (before_first (λ b. eqb b close_brace)) (sym (rest_of_tagged key before rest other opens t))
    ∙ before_first-IsSplitAt close_brace rest tag after closes ∙ empty)
