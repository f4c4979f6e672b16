-- The names of refused commands: which have a place, and how often each came.
use Rattle.std.specs.Prelude.{◌≡◌, ℕ, ◌+◌, ◌-◌, ◌*◌, ◌^◌, ◌<◌, ◌≤◌, ◌==◌, ◌&&◌, ◌||◌, not, Bool, nat_lt, nat_le, min, if◌then◌else◌, List, [], AllPairs, length, map, fold, sum_by, count_by, replicate, slice_index, slice_index_or, slice_set, true}
use Rattle.std.specs.List.{list_all, list_any, position_or_len, range_with_len, before_first}
use Rattle.std.specs.Char.{to_ascii_lowercase, is_ascii_alphanumeric}
use Rattle.std.specs.Str.{bytes_eq}
use Rattle.proxy_stats.specs.declared.refused_names.RefusedName.{RefusedName}
use Rattle.proxy_stats.specs.declared.refused_names.RefusedNames.{RefusedNames}

-- ---- names

-- a letter, a digit, `.`, `_`, `-` or `|`
abbrev pub is_shown_byte : ℕ → Bool
is_shown_byte b = is_ascii_alphanumeric b || b == 46 || b == 95 || b == 45 || b == 124

-- a name that can have a place: it has 1 to 32 bytes, all of them letters, digits, `.`, `_`, `-` or `|`
abbrev pub is_shown : List ℕ → Bool
is_shown name = not (length name == 0) && nat_le (length name) 32 && list_all is_shown_byte name

-- a name in lower case, with zeros behind it
unfoldable pub key_of : List ℕ → List ℕ
key_of name = map (λ i. to_ascii_lowercase (slice_index name i)) (range_with_len 0 32)

-- how many of the names are this one, in any case
abbrev pub times : List ℕ → List (List ℕ) → ℕ
times key names = count_by (λ name. is_shown name && bytes_eq (key_of name) key) names

-- ---- places

-- the key of a free place
abbrev pub no_key : List ℕ
no_key = replicate 32 0

-- a free place
abbrev pub free_place : RefusedName
free_place = record { key = no_key; count = 0; weight = 0 }

-- stands for a place that there isn't
abbrev pub nowhere : RefusedName
nowhere = record { key = []; count = 0; weight = 0 }

-- whether no name has the place
abbrev pub is_free : RefusedName → Bool
is_free p = p.count == 0

-- the name of a place, without the zeros behind it
abbrev pub shown_name : RefusedName → List ℕ
shown_name p = before_first (λ b. b == 0) p.key

-- whether a place is that of the name with this key
abbrev pub has_key : List ℕ → RefusedName → Bool
has_key key p = bytes_eq p.key key

-- how many commands a place counts
abbrev pub count : RefusedName → ℕ
count p = p.count

-- how many of them have this name
abbrev pub count_of : List ℕ → RefusedName → ℕ
count_of key p = if has_key key p then p.count else 0

-- how many commands of a name the places count
abbrev pub counted : List ℕ → List RefusedName → ℕ
counted key ps = sum_by (count_of key) ps

-- how many commands are counted in all
abbrev pub total : RefusedNames → ℕ
total r = sum_by count r.places + r.others

-- no two places have one name
abbrev pub HaveOneNameEach : List RefusedName → Type 0
HaveOneNameEach ps = AllPairs (λ p q. p.key ≡ q.key → p.key ≡ no_key) ps

-- some place is free
abbrev pub HasRoom : List RefusedName → Type 0
HasRoom ps = (j : ℕ) × (j < length ps) × ((slice_index_or ps j nowhere).count ≡ 0)

-- ---- what the numbers mean

-- The numbers are those of these names: together how many came, each place's at most how often its name came, and no name has two places.
pub record AreCountedIn (names : List (List ℕ)) (r : RefusedNames) : Type 0 where
  pub places : length r.places ≡ 32
  pub all : total r ≡ length names
  pub each : (key : List ℕ) → counted key r.places ≤ times key names
  pub once : HaveOneNameEach r.places

-- The numbers are those of these names, and a name that came more often than each 33rd time has a place.
pub record AreNamesOf (names : List (List ℕ)) (r : RefusedNames) : Type 0 where
  pub counts : AreCountedIn names r
  pub often : (name : List ℕ) → length names < 33 * times (key_of name) names → list_any (has_key (key_of name)) r.places ≡ true

-- ---- two of them together

-- The numbers of both together. As many came as in both, as far as a number can tell it. No name is counted more often than in both, and none less if a place
-- is free. No name has two places.
pub record AreAdded (a b c : RefusedNames) : Type 0 where
  pub places : length a.places ≡ 32 → length c.places ≡ 32
  pub all : total a + total b < 2 ^ 64 → total c ≡ total a + total b
  pub each : (key : List ℕ) → counted key c.places ≤ counted key a.places + counted key b.places
  pub full : total a + total b < 2 ^ 64 → HasRoom c.places → HasRoom a.places × ((key : List ℕ) → counted key c.places ≡ counted key a.places + counted key b.places)
  pub once : HaveOneNameEach a.places → HaveOneNameEach c.places

-- the numbers with one place more
pub record AreAddedWith (a : RefusedNames) (p : RefusedName) (c : RefusedNames) : Type 0 where
  pub places : length c.places ≡ length a.places
  pub all : total a + p.count < 2 ^ 64 → total c ≡ total a + p.count
  pub each : (key : List ℕ) → counted key c.places ≤ counted key a.places + count_of key p
  pub full : total a + p.count < 2 ^ 64 → HasRoom c.places → HasRoom a.places × ((key : List ℕ) → counted key c.places ≡ counted key a.places + count_of key p)
  pub once : HaveOneNameEach a.places → HaveOneNameEach c.places

-- a place with the count of another of its name
abbrev pub joined : RefusedName → RefusedName → RefusedName
joined p q = record { key = p.key; count = min (p.count + q.count) (2 ^ 64 - 1); weight = min (p.weight + q.weight) (2 ^ 64 - 1) }

-- no place counts less than this one
pub record IsLeast (ps : List RefusedName) (place : ℕ) : Type 0 where
  pub there : place < length ps
  pub least : (j : ℕ) (d : RefusedName) → j < length ps → (slice_index_or ps place d).count ≤ (slice_index_or ps j d).count

-- ---- one name more

-- the number, or the greatest `u64` where it is more
abbrev pub capped : ℕ → ℕ
capped n = min n (2 ^ 64 - 1)

-- a place whose name came once more
abbrev pub more_often : RefusedName → RefusedName
more_often p = record { key = p.key; count = capped (p.count + 1); weight = capped (p.weight + 1) }

-- a place for a name that came
abbrev pub newly_placed : List ℕ → RefusedName
newly_placed key = record { key = key; count = 1; weight = 1 }

-- a place where a name without one came: it loses of its weight, and then its name
abbrev pub lighter : RefusedName → RefusedName
lighter p = if nat_le p.weight 1 then free_place else record p { weight = p.weight - 1 }

-- what the rest gets of it
abbrev pub leaving : RefusedName → ℕ
leaving p = if nat_le p.weight 1 then p.count else 0

-- each place is lighter
abbrev pub lightened : RefusedNames → RefusedNames
lightened r = record { places = map lighter r.places; others = capped (r.others + 1 + sum_by leaving r.places) }

-- the numbers with a name that has no place: it gets a free one, or each place is lighter
unfoldable pub placed : RefusedNames → List ℕ → RefusedNames
placed r key =
    let free = position_or_len is_free r.places in
    if nat_lt free 32
    then record r { places = slice_set r.places free (newly_placed key) }
    else lightened r

-- the numbers with one name more that can have a place
unfoldable pub noted_key : RefusedNames → List ℕ → RefusedNames
noted_key r key =
    let place = position_or_len (has_key key) r.places in
    if nat_lt place 32
    then record r { places = slice_set r.places place (more_often (slice_index_or r.places place nowhere)) }
    else placed r key

-- the numbers with one name more
unfoldable pub noted : RefusedNames → List ℕ → RefusedNames
noted r name = if is_shown name then noted_key r (key_of name) else record r { others = capped (r.others + 1) }

-- the numbers of no names
abbrev pub no_names : RefusedNames
no_names = record { places = replicate 32 free_place; others = 0 }

-- the numbers once these names came, one after the other
abbrev pub names_after : List (List ℕ) → RefusedNames
names_after names = fold noted no_names names
