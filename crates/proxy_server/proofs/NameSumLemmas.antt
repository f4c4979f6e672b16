-- Sums of names of refused commands with one more.
use Rattle.std.proofs.Common.{ℕ, ◌+◌, ◌<◌, ◌≤◌, List, [], ◌∷◌, ◌++◌, length, take, map, get_or, subst, arith, refl}
use Rattle.std.proofs.lemmas.List.{map-append, take_more, take_all}
use Rattle.std.proofs.lemmas.List.Sums.{sum_by_push}
use Rattle.proxy_stats.specs.declared.refused_names.RefusedNames.{RefusedNames}
use Rattle.proxy_stats.specs.RefusedNames.{AreAdded, counted, no_names, total}
use Rattle.proxy_stats.proofs.CallerLemmas.{no_names_law}
use Rattle.proxy_server.specs.declared.living.Living.{Living}
use Rattle.proxy_server.specs.NameSums.{AreNameSums}

-- sums with one more
pub sums_more : (xs : List RefusedNames) (one x y : RefusedNames) → AreNameSums xs x → AreAdded x one y → AreNameSums (xs ++ one ∷ []) y
sums_more xs one x y is new = record {
  sum = λ small.
      let s = sum_by_push total xs one in
      let before = is.sum (omega (arith, s, small)) in
      let after = new.all (omega (arith, s, small, before)) in
      omega (arith, s, before, after);
  each = λ key. let s = sum_by_push (λ a. counted key a.places) xs one in let before = is.each key in let after = new.each key in omega (arith, s, before, after);
  full = λ small room key.
      let s = sum_by_push total xs one in
      let before = is.sum (omega (arith, s, small)) in
      let now = new.full (omega (arith, s, small, before)) room in
      let was = is.full (omega (arith, s, small)) now.0 key in
      let more = now.1 key in
      let sums = sum_by_push (λ a. counted key a.places) xs one in
      omega (arith, sums, was, more);
  once = new.once is.once;
}

-- no names at all
pub no_sums : AreNameSums [] no_names
no_sums = record { sum = λ small. refl; each = no_names_law.each; full = λ small room key. let few = no_names_law.each key in omega (arith, few); once = no_names_law.once }

-- with the names of one look more
pub sums_along : (past : RefusedNames) (living : List Living) (i : ℕ) (d : Living) (x y : RefusedNames) → i < length living
    → AreNameSums (past ∷ map (λ l. l.refused_names) (take i living)) x → AreAdded x (get_or living i d).refused_names y
    → AreNameSums (past ∷ map (λ l. l.refused_names) (take (i + 1) living)) y
sums_along past living i d x y less is new =
    rw (take_more living i d less, map-append (λ l. l.refused_names) (take i living) (get_or living i d ∷ []))
    (sums_more (past ∷ map (λ l. l.refused_names) (take i living)) (get_or living i d).refused_names x y is new)

pub sums_of_all : (past : RefusedNames) (living : List Living) (i : ℕ) (x : RefusedNames) → length living ≤ i
    → AreNameSums (past ∷ map (λ l. l.refused_names) (take i living)) x → AreNameSums (past ∷ map (λ l. l.refused_names) living) x
sums_of_all past living i x all is = subst (λ (l : List Living). AreNameSums (past ∷ map (λ a. a.refused_names) l) x) (take_all i living all) is
