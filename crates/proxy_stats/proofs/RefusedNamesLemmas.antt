-- What the numbers of names mean, once all names of a list came one after the other.
use Rattle.std.proofs.Common.{◌≡◌, ℕ, ◌+◌, ◌^◌, ◌<◌, ◌≤◌, List, [], ◌∷◌, ◌++◌, inl, inr, length, replicate, refl, ap, subst, arith, append_assoc, length-append}
use Rattle.std.specs.List.{fold, list_any}
use Rattle.std.proofs.lemmas.Bool.{both_ways, cases_Bool}
use Rattle.std.proofs.lemmas.List.{append-nil, get_or-replicate}
use Rattle.std.proofs.lemmas.List.Elements.{All-replicate}
use Rattle.std.proofs.lemmas.List.Sums.{sum_by-le}
use Rattle.std.proofs.lemmas.List.Folds.{list_any_at}
use Rattle.proxy_stats.specs.declared.refused_names.RefusedName.{RefusedName}
use Rattle.proxy_stats.specs.declared.refused_names.RefusedNames.{RefusedNames}
use Rattle.proxy_stats.specs.RefusedNames.{AreNamesOf, count_of, free_place, has_key, is_shown, key_of, names_after, no_names, noted, nowhere, times}
use Rattle.proxy_stats.proofs.KeyLemmas.{shown_key, times_kept, times_more, same_keys}
use Rattle.proxy_stats.proofs.PlaceLemmas.{count_at_most, each_from_apart}
use Rattle.proxy_stats.proofs.MajorityLemmas.{IsKept, kept_hidden, kept_key, IsHeld}

-- the places keep the names of a list, with so many rounds in which they became lighter
abbrev IsKeptOf : List (List ℕ) → RefusedNames → ℕ → Type 0
IsKeptOf names r D = IsKept (λ key. times key names) (length names) r D

length_more : (names : List (List ℕ)) (name : List ℕ) → length (names ++ name ∷ []) ≡ length names + 1
length_more names name = length-append names (name ∷ [])

kept_more : (names : List (List ℕ)) (name : List ℕ) (r : RefusedNames) (D : ℕ) → length names + 1 < 2 ^ 64 → IsKeptOf names r D → (E : ℕ) × IsKeptOf (names ++ name ∷ []) (noted r name) E
unfolding noted
kept_more names name r D small is = rw (length_more names name) (elim (cases_Bool (is_shown name)) [
  | inl shown ↦ rw shown (kept_key (λ key. times key names) (key_of name) (λ key. times key (names ++ name ∷ [])) (length names) r D small is (times_more names name shown) (shown_key name shown))
  | inr hidden ↦ rw hidden (D, kept_hidden (λ key. times key names) (λ key. times key (names ++ name ∷ [])) (length names) r D small is (λ key. times_kept names name key hidden))
])

kept_all : (before more : List (List ℕ)) (r : RefusedNames) (D : ℕ) → length before + length more < 2 ^ 64 → IsKeptOf before r D → (E : ℕ) × IsKeptOf (before ++ more) (fold noted r more) E
kept_all before [] r D small is = rw (append-nil before) (D, is)
kept_all before (name ∷ more) r D small is =
    let (E, next) = kept_more before name r D (omega arith) is in
    let (F, all) = kept_all (before ++ name ∷ []) more (noted r name) E (omega (arith, length_more before name)) next in
    (F, subst (λ (names : List (List ℕ)). IsKeptOf names (fold noted r (name ∷ more)) F) (append_assoc before (name ∷ []) more) all)

kept_none : IsKeptOf [] no_names 0
kept_none = record {
  places = refl;
  all = refl;
  each = λ key. let few = sum_by-le (count_of key) 0 (replicate 32 free_place) (All-replicate (λ (p : RefusedName). count_of key p ≤ 0) 32 free_place (count_at_most key free_place)) in omega (arith, few);
  once = λ i j i_in j_in other same. ap (λ (p : RefusedName). p.key) (get_or-replicate 32 i free_place nowhere i_in);
  held = All-replicate (IsHeld (λ key. times key []) 0) 32 free_place (record { heavy = omega arith; light = omega arith; kept = λ some. absurd (omega (arith, some)); free = λ zero. refl });
  none = refl;
  absent = λ key gone. omega arith;
  bound = omega arith;
}

-- the numbers after names are theirs
pub names_law : (names : List (List ℕ)) → length names < 2 ^ 64 → AreNamesOf names (names_after names)
names_law names small =
    let (D, is) = kept_all [] names no_names 0 (omega arith) kept_none in
    record {
      counts = record { places = is.places; all = is.all; each = is.each; once = each_from_apart _ is.once };
      often = λ name many. elim (cases_Bool (list_any (has_key (key_of name)) (names_after names).places)) [
        | inl there ↦ there
        | inr gone ↦ absurd (
            let few : times (key_of name) names ≤ D = is.absent (key_of name) (λ j j_in same. both_ways _ gone (list_any_at (has_key (key_of name)) (names_after names).places j nowhere j_in (same_keys _ _ same))) in
            let b = is.bound in
            omega (arith, few, b, many))
      ];
    }
