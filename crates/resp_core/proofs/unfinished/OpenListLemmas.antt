-- Lists that are begun: how they grow, go on and close.
use Rattle.std.proofs.Common.{◌≡◌, ℕ, suc, ◌-◌, List, [], ◌∷◌, ◌++◌, length, Some, refl, sym, ap, ◌∙◌, append_assoc, ◌<◌, arith}
use Rattle.std.proofs.lemmas.List.{length-append}
use Rattle.resp_core.specs.declared.error.Refusal.{Refusal}
use Rattle.resp_core.specs.declared.begun.Begun.{Begun}
use Rattle.resp_core.specs.Tree.{Tree, list, trees_of}
use Rattle.resp_core.specs.Reading.{Outcome, found, unfinished, refused, and_then, many_at, members_at, value_at}
use Rattle.resp_core.specs.OpenLists.{in_list, nested_outcome}

pub nested_unfinished : (most left : ℕ) (others : List Begun) → nested_outcome most left others unfinished ≡ unfinished
nested_unfinished most left [] = refl
nested_unfinished most left (begun ∷ others) = ap (in_list most (left - 1) begun) (nested_unfinished most (left - 1) others)

pub nested_refused : (most left : ℕ) (others : List Begun) (r : Refusal) (rest : List ℕ) → nested_outcome most left others (refused r rest) ≡ refused r rest
nested_refused most left [] r rest = refl
nested_refused most left (begun ∷ others) r rest = ap (in_list most (left - 1) begun) (nested_refused most (left - 1) others r rest)

-- one list more, the innermost
pub nested_push : (most left : ℕ) (others : List Begun) (begun : Begun) (o : Outcome Tree) → nested_outcome most left (others ++ begun ∷ []) o ≡ nested_outcome most left others (in_list most (left - length others - 1) begun o)
nested_push most left [] begun o = ap (λ z. in_list most z begun o) (omega arith)
nested_push most left (x ∷ others) begun o =
    let e : left - 1 - length others - 1 ≡ left - length (x ∷ others) - 1 = omega arith in
    ap (in_list most (left - 1) x) (nested_push most (left - 1) others begun o ∙ ap (λ z. nested_outcome most (left - 1) others (in_list most z begun o)) e)

-- the member came, and it was the last one
pub list_closes : (most left : ℕ) (begun : Begun) (t : Tree) (rest : List ℕ) → begun.due ≡ 0 → in_list most left begun (found t rest) ≡ found (list (trees_of (begun.members ++ t ∷ []))) rest
unfolding many_at
list_closes most left begun t rest e = rw e refl

-- the member came, and another is due
pub list_goes_on : (most left n : ℕ) (begun next : Begun) (t : Tree) (rest : List ℕ) → begun.due ≡ suc n → next.due ≡ n → next.members ≡ begun.members ++ t ∷ [] → in_list most left begun (found t rest) ≡ in_list most left next (value_at most left rest)
unfolding many_at
list_goes_on most left n begun next t rest e f g = rw (e, f, g) (by_first (value_at most left rest))
  where
    by_others : (u : Tree) (o : Outcome (List Tree)) → and_then (and_then o (λ others rest. found (u ∷ others) rest)) (λ ts rest. found (list (trees_of (begun.members ++ t ∷ ts))) rest) ≡ and_then o (λ ts rest. found (list (trees_of ((begun.members ++ t ∷ []) ++ u ∷ ts))) rest)
    by_others u (found others rest) = ap (λ z. found (list (trees_of z)) rest) (sym (append_assoc begun.members (t ∷ []) (u ∷ others)))
    by_others u unfinished = refl
    by_others u (refused r rest) = refl

    by_first : (o : Outcome Tree) → and_then (and_then o (λ a rest. and_then (many_at (value_at most left) n rest) (λ others rest. found (a ∷ others) rest))) (λ ts rest. found (list (trees_of (begun.members ++ t ∷ ts))) rest) ≡ and_then o (λ u rest. and_then (many_at (value_at most left) n rest) (λ ts rest. found (list (trees_of ((begun.members ++ t ∷ []) ++ u ∷ ts))) rest))
    by_first (found u rest) = by_others u (many_at (value_at most left) n rest)
    by_first unfinished = refl
    by_first (refused r rest) = refl

-- a list others
pub list_opens : (most left n : ℕ) (begun : Begun) (b : List ℕ) → begun.due ≡ n → begun.members ≡ [] → members_at (value_at most left) (Some (suc n)) b ≡ in_list most left begun (value_at most left b)
unfolding members_at many_at
list_opens most left n begun b e f = rw (e, f) (by_first (value_at most left b))
  where
    by_others : (u : Tree) (o : Outcome (List Tree)) → and_then (and_then o (λ others rest. found (u ∷ others) rest)) (λ ts rest. found (list (trees_of ts)) rest) ≡ and_then o (λ ts rest. found (list (trees_of (u ∷ ts))) rest)
    by_others u (found others rest) = refl
    by_others u unfinished = refl
    by_others u (refused r rest) = refl

    by_first : (o : Outcome Tree) → and_then (and_then o (λ a rest. and_then (many_at (value_at most left) n rest) (λ others rest. found (a ∷ others) rest))) (λ ts rest. found (list (trees_of ts)) rest) ≡ and_then o (λ u rest. and_then (many_at (value_at most left) n rest) (λ ts rest. found (list (trees_of (u ∷ ts))) rest))
    by_first (found u rest) = by_others u (many_at (value_at most left) n rest)
    by_first unfinished = refl
    by_first (refused r rest) = refl

pub list_is_empty : (most left : ℕ) (b : List ℕ) → members_at (value_at most left) (Some 0) b ≡ found (list (trees_of [])) b
unfolding members_at many_at
list_is_empty most left b = refl

-- the innermost list goes on
pub put_goes_on : (most left : ℕ) (xs ys zs : List Begun) (begun next : Begun) (t : Tree) (rest : List ℕ) → ys ≡ xs ++ begun ∷ [] → zs ≡ xs ++ next ∷ [] → 0 < begun.due → next.due ≡ begun.due - 1 → next.members ≡ begun.members ++ t ∷ [] → nested_outcome most left ys (found t rest) ≡ nested_outcome most left zs (value_at most (left - length zs) rest)
put_goes_on most left xs ys zs begun next t rest e f some g h =
    let inner : left - length xs - 1 ≡ left - length zs = omega (arith, ap length f, length-append xs (next ∷ [])) in
    let due : begun.due ≡ suc next.due = omega (arith, g) in
    ap (λ z. nested_outcome most left z (found t rest)) e ∙ nested_push most left xs begun (found t rest)
    ∙ ap (nested_outcome most left xs) (list_goes_on most (left - length xs - 1) next.due begun next t rest due refl h)
    ∙ ap (λ z. nested_outcome most left xs (in_list most (left - length xs - 1) next (value_at most z rest))) inner
    ∙ sym (nested_push most left xs next (value_at most (left - length zs) rest))
    ∙ ap (λ z. nested_outcome most left z (value_at most (left - length zs) rest)) (sym f)

-- it closes
pub put_closes : (most left : ℕ) (xs ys : List Begun) (begun : Begun) (t : Tree) (ts : List Tree) (rest : List ℕ) → ys ≡ xs ++ begun ∷ [] → begun.due ≡ 0 → ts ≡ begun.members ++ t ∷ [] → nested_outcome most left ys (found t rest) ≡ nested_outcome most left xs (found (list (trees_of ts)) rest)
put_closes most left xs ys begun t ts rest e due h =
    ap (λ z. nested_outcome most left z (found t rest)) e ∙ nested_push most left xs begun (found t rest)
    ∙ ap (nested_outcome most left xs) (list_closes most (left - length xs - 1) begun t rest due ∙ ap (λ z. found (list (trees_of z)) rest) (sym h))
