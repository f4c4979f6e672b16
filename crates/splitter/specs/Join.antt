-- How the values of a command's parts become one.
use Rattle.std.specs.Prelude.{◌≡◌, ◌≤◌, ℕ, ℤ, pos, ◌+ℤ◌, Bool, true, false, not, ◌==◌, if◌then◌else◌, List, [], ◌∷◌, ◌++◌, map, count_by, codes}
use Rattle.std.specs.Fmt.{decimal}
use Rattle.std.specs.Str.{bytes_eq}
use Rattle.resp_core.specs.Tree.{Tree, simple, fault, whole, bulk, null_bulk, list, null_list, trees_of}
use Rattle.resp_core.specs.ValueLimits.{is_long}
use Rattle.splitter.specs.declared.plans.Join.{Join}
use Rattle.splitter.specs.declared.plans.Join.TheVariants.{Same, Get, Set, Sum}

-- the error where a part's value doesn't fit its join
abbrev pub upstream_protocol_error : Tree
upstream_protocol_error = fault (codes "upstream protocol error")

-- so many parts failed
abbrev pub finished_with : ℕ → Tree
finished_with n = fault (codes "finished with " ++ decimal n ++ codes " error(s)")

-- the one value
abbrev pub first_of : List Tree → Tree
first_of [] = null_bulk
first_of (t ∷ ts) = t

-- a value in its place: a bulk string, a null or an error
abbrev pub in_place : Tree → Tree
in_place (simple s) = upstream_protocol_error
in_place (fault s) = fault s
in_place (whole n) = upstream_protocol_error
in_place (bulk s) = bulk s
in_place null_bulk = null_bulk
in_place (list ts) = upstream_protocol_error
in_place null_list = upstream_protocol_error

-- simple `OK`
abbrev pub is_done : Tree → Bool
is_done (simple s) = bytes_eq s (codes "OK")
is_done (fault s) = false
is_done (whole n) = false
is_done (bulk s) = false
is_done null_bulk = false
is_done (list ts) = false
is_done null_list = false

-- whether a value is an integer
abbrev pub is_whole : Tree → Bool
is_whole (simple s) = false
is_whole (fault s) = false
is_whole (whole n) = true
is_whole (bulk s) = false
is_whole null_bulk = false
is_whole (list ts) = false
is_whole null_list = false

-- the number that an integer is
abbrev pub number_of : Tree → ℤ
number_of (simple s) = pos 0
number_of (fault s) = pos 0
number_of (whole n) = n
number_of (bulk s) = pos 0
number_of null_bulk = pos 0
number_of (list ts) = pos 0
number_of null_list = pos 0

-- the sum of integers, taken in whole numbers
abbrev pub total : List Tree → ℤ
total [] = pos 0
total (t ∷ ts) = number_of t +ℤ total ts

-- a sum as it is told: in the signed 64-bit range
abbrev pub told_sum : ℤ → Tree
told_sum n = if is_long n then whole n else upstream_protocol_error

-- a value where none failed, and else how many did
abbrev pub unless_failed : ℕ → Tree → Tree
unless_failed failed t = if failed == 0 then t else finished_with failed

-- the value that the parts' values become, by the join
abbrev pub join_of : Join → List Tree → Tree
join_of Same ts = first_of ts
join_of Get ts = list (trees_of (map in_place ts))
join_of Set ts = unless_failed (count_by (λ t. not (is_done t)) ts) (simple (codes "OK"))
join_of Sum ts = unless_failed (count_by (λ t. not (is_whole t)) ts) (told_sum (total ts))

-- What a join is asked: at least one value, and for `Same` just one.
abbrev pub MayJoin : Join → ℕ → Type 0
MayJoin Same n = n ≡ 1
MayJoin Get n = 1 ≤ n
MayJoin Set n = 1 ≤ n
MayJoin Sum n = 1 ≤ n
