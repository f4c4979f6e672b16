-- Parts that are apart.
use Rattle.std.proofs.Common.{◌≡◌, ℕ, zero, suc, false, List, [], ◌∷◌, ◌++◌, length, drop, find, zip, None, Contains, refl, ◌∙◌}
use Rattle.std.proofs.lemmas.Bool.{or_from}
use Rattle.std.proofs.lemmas.List.Folds.{list_any-append}
use Rattle.list_lemmas.proofs.CallerLemmas.{Contains-first, Contains-later, Contains-drop, list_any-false, list_any-none}
use Rattle.proxy_history.specs.Part.{Part, is_same}
use Rattle.proxy_history.specs.Laws.{AreApart}
use Rattle.proxy_history.proofs.CallerLemmas.{is_same-sym_false as is_other_sym}

-- parts that are apart stay so
pub apart_drop : (n : ℕ) (ps : List Part) → AreApart ps → AreApart (drop n ps)
apart_drop zero ps a = a
apart_drop (suc n) [] a = a
apart_drop (suc n) (p ∷ ps) a = apart_drop n ps a.1

-- and so do two lists of them, where none of the one is the same as one of the other
pub apart_append : (ps qs : List Part) → AreApart ps → AreApart qs → ((p q : Part) → Contains ps p → Contains qs q → is_same p q ≡ false) → AreApart (ps ++ qs)
apart_append [] qs a b f = b
apart_append (p ∷ ps) qs a b f = (
  list_any-append (is_same p) ps qs ∙ or_from _ _ a.0 (list_any-none (is_same p) qs (λ q h. f p q (Contains-first p ps) h)),
  apart_append ps qs a.1 b (λ r q h k. f r q (Contains-later p ps r h) k),
)

-- who stands behind those that have a partner isn't found
pub behind_unfound : {Y : Type 0} (ps : List Part) (ys : List Y) (p : Part) → AreApart ps → Contains (drop (length ys) ps) p
    → find (λ (r : Part × Y). is_same p r.0) (zip ps ys) ≡ None
behind_unfound [] ys p a h = refl
behind_unfound (q ∷ ps) [] p a h = refl
behind_unfound (q ∷ ps) (y ∷ ys) p a h =
    let other : is_same p q ≡ false = is_other_sym q p (list_any-false (is_same q) ps p a.0 (Contains-drop (length ys) ps p h)) in
    rw other (behind_unfound ps ys p a.1 h)
