-- Searches in lists of parts, from one part to the next.
use Rattle.std.proofs.Common.{◌≡◌, ◌+◌, ◌<◌, ◌≤◌, ℕ, Bool, true, false, List, [], ◌∷◌, ◌++◌, length, filter, take, drop, drop-cons, get_or, Option, Some, None, refl, ap, ◌∙◌, add-one, arith}
use Rattle.std.specs.List.{list_any}
use Rattle.std.specs.Prelude.{option_map}
use Rattle.std.proofs.lemmas.List.{take_more, take_all, map-append, length-append, drop_all}
use Rattle.std.proofs.lemmas.List.Elements.{filter-append}
use Rattle.proxy_history.specs.Part.{Part, is_same}
use Rattle.test_reference.specs.Scan.{part_of, parts_of, first_of, place_in}
use Rattle.test_reference.specs.declared.part.Part.{Part as Part'}

module _ (ps : List Part') (i : ℕ) (d : Part') (inside : i < length ps) where
  rest_is : parts_of (drop i ps) ≡ part_of (get_or ps i d) ∷ parts_of (drop (i + 1) ps)
  rest_is = ap parts_of dropped
    where
      dropped : drop i ps ≡ get_or ps i d ∷ drop (i + 1) ps
      dropped = rw add-one (drop-cons ps i d inside)

  front_is : parts_of (take (i + 1) ps) ≡ parts_of (take i ps) ++ part_of (get_or ps i d) ∷ []
  front_is = ap parts_of (take_more ps i d inside) ∙ map-append part_of (take i ps) (get_or ps i d ∷ [])

  -- whether one passes
  pub any-here : (test : Part → Bool) → test (part_of (get_or ps i d)) ≡ true → list_any test (parts_of (drop i ps)) ≡ true
  any-here test e = rw (rest_is, e) refl

  pub any-later : (test : Part → Bool) → test (part_of (get_or ps i d)) ≡ false → list_any test (parts_of (drop i ps)) ≡ list_any test (parts_of (drop (i + 1) ps))
  any-later test e = rw (rest_is, e) refl

  -- the first that passes
  pub first-here : (test : Part → Bool) → test (part_of (get_or ps i d)) ≡ true → first_of (filter test (parts_of (drop i ps))) ≡ Some (part_of (get_or ps i d))
  first-here test e = rw (rest_is, e) refl

  pub first-later : (test : Part → Bool) → test (part_of (get_or ps i d)) ≡ false → first_of (filter test (parts_of (drop i ps))) ≡ first_of (filter test (parts_of (drop (i + 1) ps)))
  first-later test e = rw (rest_is, e) refl

  -- how many pass
  pub count-one : (test : Part → Bool) → test (part_of (get_or ps i d)) ≡ true → length (filter test (parts_of (take (i + 1) ps))) ≡ length (filter test (parts_of (take i ps))) + 1
  count-one test e =
      let p = part_of (get_or ps i d) in
      let one : filter test (p ∷ []) ≡ p ∷ [] = rw e refl in
      ap (λ z. length (filter test z)) front_is ∙ ap length (filter-append test (parts_of (take i ps)) (p ∷ []) ∙ ap (λ z. filter test (parts_of (take i ps)) ++ z) one) ∙ length-append (filter test (parts_of (take i ps))) (p ∷ [])

  pub count-none : (test : Part → Bool) → test (part_of (get_or ps i d)) ≡ false → length (filter test (parts_of (take (i + 1) ps))) ≡ length (filter test (parts_of (take i ps)))
  count-none test e =
      let p = part_of (get_or ps i d) in
      let none : filter test (p ∷ []) ≡ [] = rw e refl in
      ap (λ z. length (filter test z)) front_is ∙ ap length (filter-append test (parts_of (take i ps)) (p ∷ []) ∙ ap (λ z. filter test (parts_of (take i ps)) ++ z) none) ∙ length-append (filter test (parts_of (take i ps))) [] ∙ omega arith

  -- the place of the first that is the same
  pub place-here : (test : Part → Bool) (q : Part) → test (part_of (get_or ps i d)) ≡ true → is_same q (part_of (get_or ps i d)) ≡ true → place_in q (filter test (parts_of (drop i ps))) ≡ Some 0
  place-here test q e s = rw (rest_is, e, s) refl

  pub place-later : (test : Part → Bool) (q : Part) → test (part_of (get_or ps i d)) ≡ true → is_same q (part_of (get_or ps i d)) ≡ false
      → place_in q (filter test (parts_of (drop i ps))) ≡ option_map (λ k. k + 1) (place_in q (filter test (parts_of (drop (i + 1) ps))))
  place-later test q e s = rw (rest_is, e, s) refl

  pub place-other : (test : Part → Bool) (q : Part) → test (part_of (get_or ps i d)) ≡ false → place_in q (filter test (parts_of (drop i ps))) ≡ place_in q (filter test (parts_of (drop (i + 1) ps)))
  place-other test q e = rw (rest_is, e) refl

pub none_left : (ps : List Part') (i : ℕ) → length ps ≤ i → parts_of (drop i ps) ≡ []
none_left ps i l = ap parts_of (drop_all i ps l)

pub all_taken : (ps : List Part') (i : ℕ) → length ps ≤ i → parts_of (take i ps) ≡ parts_of ps
all_taken ps i l = ap parts_of (take_all i ps l)

-- a place so many further
pub moved : ℕ → Option ℕ → Option ℕ
moved n o = option_map (λ k. k + n) o

pub moved-none : (n : ℕ) → moved n None ≡ None
unfolding moved
moved-none n = refl

pub moved-zero : (o : Option ℕ) → moved 0 o ≡ o
unfolding moved
moved-zero None = refl
moved-zero (Some k) = ap Some (omega arith)

pub moved-here : (n : ℕ) → moved n (Some 0) ≡ Some n
unfolding moved
moved-here n = ap Some (omega arith)

pub moved-more : (n : ℕ) (o : Option ℕ) → moved n (option_map (λ k. k + 1) o) ≡ moved (n + 1) o
unfolding moved
moved-more n None = refl
moved-more n (Some k) = ap Some (omega arith)
