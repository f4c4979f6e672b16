-- What the rows of the table say of a key's place and of a name's length.
use Rattle.std.proofs.Common.{◌≡◌, ◌<◌, ℕ, Bool, true, ◌&&◌, ◌==◌, ltb, Contains, length, refl, subst}
use Rattle.std.specs.List.{list_all}
use Rattle.std.proofs.lemmas.Bool.{and_parts, ltb-true, eqb-true}
use Rattle.list_lemmas.proofs.CallerLemmas.{list_all-get_or}
use Rattle.command_table.specs.Names.{one_key_names}
use Rattle.command_table.specs.Table.{Row, rows}
use Rattle.command_table.specs.declared.Kind.{Kind}
use Rattle.command_table.specs.declared.Kind.TheVariants.{Ping, Echo, Quit, One, SplitGet, SplitSet, SplitSum}

-- PING has a name; the key of a command that is split is its second word, the key of one that stays whole is any but its first, and its least
-- number of words holds its key; the names of MGET and MSET have three bytes at least
abbrev good_by : Kind → Row → Bool
good_by Ping r = ltb 0 r.least
good_by Echo r = r.least == 2
good_by Quit r = true
good_by One r = ltb 0 r.key_at && ltb r.key_at r.least
good_by SplitGet r = ltb 1 r.least && (r.key_at == 1) && ltb 2 (length r.name)
good_by SplitSet r = ltb 2 r.least && (r.key_at == 1) && ltb 2 (length r.name)
good_by SplitSum r = ltb 1 r.least && (r.key_at == 1)

-- each row is tried here
good_rows : list_all (λ r. good_by r.kind r) rows ≡ true
unfolding rows one_key_names
good_rows = refl

good_row : (r : Row) → Contains rows r → good_by r.kind r ≡ true
good_row r (k, within, is) = subst (λ (z : Row). good_by z.kind z ≡ true) is (list_all-get_or (λ z. good_by z.kind z) rows k r good_rows within)

good_kind : (k : Kind) (r : Row) → Contains rows r → r.kind ≡ k → good_by k r ≡ true
good_kind k r h e = subst (λ (z : Kind). good_by z r ≡ true) e (good_row r h)

pub ping_row : (r : Row) → Contains rows r → r.kind ≡ Ping → 0 < r.least
ping_row r h e = ltb-true 0 r.least (good_kind Ping r h e)

pub echo_row : (r : Row) → Contains rows r → r.kind ≡ Echo → r.least ≡ 2
echo_row r h e = eqb-true r.least 2 (good_kind Echo r h e)

pub one_row : (r : Row) → Contains rows r → r.kind ≡ One → (0 < r.key_at) × (r.key_at < r.least)
one_row r h e =
    let p = and_parts (ltb 0 r.key_at) (ltb r.key_at r.least) (good_kind One r h e) in
    (ltb-true 0 r.key_at p.0, ltb-true r.key_at r.least p.1)

split_row : (low : ℕ) (r : Row) → (ltb low r.least && (r.key_at == 1) && ltb 2 (length r.name)) ≡ true → (low < r.least) × (r.key_at ≡ 1) × (2 < length r.name)
split_row low r h =
    let p = and_parts (ltb low r.least && (r.key_at == 1)) (ltb 2 (length r.name)) h in
    let q = and_parts (ltb low r.least) (r.key_at == 1) p.0 in
    (ltb-true low r.least q.0, eqb-true r.key_at 1 q.1, ltb-true 2 (length r.name) p.1)

pub get_row : (r : Row) → Contains rows r → r.kind ≡ SplitGet → (1 < r.least) × (r.key_at ≡ 1) × (2 < length r.name)
get_row r h e = split_row 1 r (good_kind SplitGet r h e)

pub set_row : (r : Row) → Contains rows r → r.kind ≡ SplitSet → (2 < r.least) × (r.key_at ≡ 1) × (2 < length r.name)
set_row r h e = split_row 2 r (good_kind SplitSet r h e)

pub sum_row : (r : Row) → Contains rows r → r.kind ≡ SplitSum → (1 < r.least) × (r.key_at ≡ 1)
sum_row r h e =
    let q = and_parts (ltb 1 r.least) (r.key_at == 1) (good_kind SplitSum r h e) in
    (ltb-true 1 r.least q.0, eqb-true r.key_at 1 q.1)
