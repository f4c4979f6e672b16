-- Places one after the other, as loops change them.
use Rattle.std.proofs.Common.{◌≡◌, ℕ, ◌+◌, ◌-◌, ◌<◌, ◌++◌, List, length, map, take, drop, set, get_or, sum_by, ap, ◌∙◌, arith}
use Rattle.std.proofs.lemmas.List.{length-set, get_or_default, get_or-append_right, length-take-le, length-map, get_or-drop}
use Rattle.std.proofs.lemmas.List.Edits.{map_over_more}
use Rattle.std.proofs.lemmas.List.Sums.{sum_by_more}
use Rattle.std.proofs.lemmas.Bool.Decides.{nat_tests}
use Rattle.proxy_stats.specs.declared.refused_names.RefusedName.{RefusedName}
use Rattle.proxy_stats.specs.RefusedNames.{capped, leaving, lighter, nowhere}

pub capped_more : (a b x y : ℕ) → x ≡ capped a → y ≡ capped (x + b) → y ≡ capped (a + b)
capped_more a b x y is more = grind (arith, nat_tests)

-- a place that no turn of the loop has changed
pub unchanged_at : (xs ys : List RefusedName) (i : ℕ) → i < length xs → ys ≡ map lighter (take i xs) ++ drop i xs → get_or ys i nowhere ≡ get_or xs i nowhere
unchanged_at xs ys i within is =
    ap (λ l. get_or l i nowhere) is
    ∙ get_or-append_right (map lighter (take i xs)) (drop i xs) i i nowhere (length-map (take i xs) lighter ∙ length-take-le i xs (omega arith)) (omega arith)
    ∙ get_or-drop i xs (i - i) nowhere
    ∙ ap (λ k. get_or xs k nowhere) (omega arith)

-- the places up to i are lighter, and what they gave is counted
abbrev pub AreLightened : (xs : List RefusedName) (others : ℕ) (i : ℕ) (ys : List RefusedName) (o : ℕ) → Type 0
AreLightened xs others i ys o = (ys ≡ map lighter (take i xs) ++ drop i xs) × (o ≡ capped (others + 1 + sum_by leaving (take i xs))) × (length ys ≡ length xs)

pub lightened_more : (xs : List RefusedName) (others i : ℕ) (ys : List RefusedName) (o : ℕ) (p : RefusedName) (m n : ℕ) → i < length xs → AreLightened xs others i ys o → p ≡ lighter (get_or ys i nowhere) → m ≡ leaving (get_or ys i nowhere) → n ≡ capped (o + m) → AreLightened xs others (i + 1) (set ys i p) n
lightened_more xs others i ys o p m n within so lit left sum =
    let here : get_or ys i nowhere ≡ get_or xs i nowhere = unchanged_at xs ys i within so.0 in
    let long : i < length ys = omega (arith, within, so.2) in
    let read : get_or ys i nowhere ≡ get_or ys i (get_or ys i nowhere) = get_or_default ys i nowhere (get_or ys i nowhere) long in
    let places : set ys i p ≡ map lighter (take (i + 1) xs) ++ drop (i + 1) xs =
    ap (λ q. set ys i q) lit ∙ map_over_more lighter xs ys i (get_or ys i nowhere) within so.0 read in
    let gone : m ≡ leaving (get_or xs i nowhere) = left ∙ ap leaving here in
    let grown : n ≡ capped (others + 1 + sum_by leaving (take i xs) + m) = capped_more (others + 1 + sum_by leaving (take i xs)) m o n so.1 sum in
    let total : others + 1 + sum_by leaving (take i xs) + m ≡ others + 1 + sum_by leaving (take (i + 1) xs) =
    let more = sum_by_more leaving xs i nowhere within in omega (arith, more, gone) in
    (places, grown ∙ ap capped total, length-set ys i p ∙ so.2)
