-- What the numbers of refused commands' names mean, for any names.
use Rattle.std.specs.Prelude.{ℕ, ◌<◌, ◌^◌, List, ◌++◌, length}
use Rattle.proxy_stats.specs.declared.refused_names.RefusedNames.{RefusedNames}
use Rattle.proxy_stats.specs.RefusedNames.{AreAdded, AreCountedIn, AreNamesOf, names_after}

-- After the names of any list, the numbers are theirs.
abbrev pub NamesAreCounted : Type 0
NamesAreCounted = (names : List (List ℕ)) → length names < 2 ^ 64 → AreNamesOf names (names_after names)

-- The sum of the numbers of two lists is that of both.
abbrev pub SumsAreCounted : Type 0
SumsAreCounted = (one other : List (List ℕ)) (a b c : RefusedNames) → length (one ++ other) < 2 ^ 64 → AreCountedIn one a → AreCountedIn other b → AreAdded a b c → AreCountedIn (one ++ other) c
