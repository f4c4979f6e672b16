-- The plan of a command of the table, by its kind.
use Rattle.std.proofs.Common.{◌≡◌, ◌<◌, ℕ, true, Contains, List, [], ◌∷◌, map, drop, length, codes, refl, sym, ap, ap₂, ◌∙◌, subst, arith}
use Rattle.std.specs.Str.{str_to_ascii_uppercase}
use Rattle.std.proofs.lemmas.Bool.{eqb-true, leb-true}
use Rattle.resp_core.specs.Tree.{Tree, simple, bulk}
use Rattle.resp_core.specs.Text.{text}
use Rattle.resp_core.specs.Command.{command_of, payload_of, is_command, words_of, word, IsArrayOf}
use Rattle.resp_core.proofs.CallerLemmas.{words_of-list, command_of_is_command, payloads}
use Rattle.command_table.specs.Entry.{row_of}
use Rattle.command_table.specs.declared.Entry.{Entry}
use Rattle.command_table.specs.Table.{Row, rows, row_named}
use Rattle.command_table.specs.declared.Kind.{Kind}
use Rattle.command_table.specs.declared.Kind.TheVariants.{Ping, Echo, One, SplitGet, SplitSet, SplitSum}
use Rattle.splitter.specs.declared.plans.PartPlan.{PartPlan}
use Rattle.splitter.specs.declared.plans.Local.TheVariants.{Pong}
use Rattle.splitter.specs.declared.plans.Join.TheVariants.{Same, Get, Set, Sum}
use Rattle.splitter.specs.Request.{read}
use Rattle.splitter.specs.Part.{part_of}
use Rattle.splitter.specs.Planned.{IsTakenBy}
use Rattle.splitter.specs.Plan.{Plan, here, parts, plan_of, plan_by, plan_by_row, takes}
use Rattle.splitter.specs.Split.{Words, pairs, part_at}
use Rattle.splitter.proofs.RowLemmas.{ping_row, echo_row, one_row}

-- the plan of a command is that of its words
pub plan_of-command : (t : Tree) (ts : List Tree) → is_command t ≡ true → IsArrayOf ts t → plan_of (read t) ≡ plan_by_row (row_named (word (map payload_of ts) 0)) (map payload_of ts)
plan_of-command t ts h e =
    let words : words_of t ≡ map payload_of ts = ap words_of e ∙ words_of-list ts in
    rw h (ap (λ z. plan_by_row (row_named (word z 0)) z) words)

-- a command of one part: its key stands among its words
pub one_inside : (r : Row) (n : ℕ) → takes r.kind r.least n ≡ true → r.kind ≡ One → Contains rows r → r.key_at < n
one_inside r n h e known =
    let least = leb-true r.least n (subst (λ (z : Kind). takes z r.least n ≡ true) e h) in
    omega (arith, least, (one_row r known e).1)

-- ECHO has a second word
pub echo_inside : (r : Row) (n : ℕ) → takes r.kind r.least n ≡ true → r.kind ≡ Echo → Contains rows r → 1 < n
echo_inside r n h e known =
    let same = eqb-true n r.least (subst (λ (z : Kind). takes z r.least n ≡ true) e h) in
    omega (arith, same, echo_row r known e)

map_twice : {A B C : Type 0} (f : B → C) (g : A → B) (xs : List A) → map f (map g xs) ≡ map (λ x. f (g x)) xs
map_twice f g [] = refl
map_twice f g (x ∷ xs) = ap (λ z. f (g x) ∷ z) (map_twice f g xs)

pub one_is : (r : Row) (words : Words) (p : Plan) → r.kind ≡ One → p ≡ parts Same (part_at r.key_at words ∷ []) → p ≡ plan_by r.kind r words
one_is r words p k e = rw k e

pub get_is : (r : Row) (words : Words) (ps : List PartPlan) → r.kind ≡ SplitGet → r.key_at ≡ 1 → ps ≡ map (λ key. part_at 1 (codes "GET" ∷ key ∷ [])) (drop 1 words) → parts Get ps ≡ plan_by r.kind r words
get_is r words ps k at e =
    rw (k, at) (ap (parts Get) (e ∙ sym (map_twice (part_at 1) (λ key. codes "GET" ∷ key ∷ []) (drop 1 words))))

pub set_is : (r : Row) (words : Words) (ps : List PartPlan) → r.kind ≡ SplitSet → r.key_at ≡ 1 → ps ≡ map (λ p. part_at 1 (codes "SET" ∷ p.0 ∷ p.1 ∷ [])) (pairs (drop 1 words)) → parts Set ps ≡ plan_by r.kind r words
set_is r words ps k at e =
    rw (k, at) (ap (parts Set) (e ∙ sym (map_twice (part_at 1) (λ p. codes "SET" ∷ p.0 ∷ p.1 ∷ []) (pairs (drop 1 words)))))

pub sum_is : (r : Row) (words : Words) (ps : List PartPlan) → r.kind ≡ SplitSum → r.key_at ≡ 1 → ps ≡ map (λ key. part_at 1 (str_to_ascii_uppercase r.name ∷ key ∷ [])) (drop 1 words) → parts Sum ps ≡ plan_by r.kind r words
sum_is r words ps k at e =
    rw (k, at) (ap (parts Sum) (e ∙ sym (map_twice (part_at 1) (λ key. str_to_ascii_uppercase r.name ∷ key ∷ []) (drop 1 words))))

-- a command of the table goes by its row
taken_is : (entry : Entry) (words : Words) → IsTakenBy entry words → 0 < length words → plan_of (read (command_of words)) ≡ plan_by entry.kind (row_of entry) words
taken_is entry words t some =
    let by_row : plan_by_row (row_named (word words 0)) words ≡ plan_by entry.kind (row_of entry) words = rw (t.row, t.takes) refl in
    plan_of-command (command_of words) (map bulk words) (command_of_is_command words some) refl ∙ ap (λ z. plan_by_row (row_named (word z 0)) z) (payloads words) ∙ by_row

-- a command that stays whole is its one part
pub whole_inside : (entry : Entry) (words : Words) → IsTakenBy entry words → entry.kind ≡ One → entry.key_at < length words
whole_inside entry words t k = one_inside (row_of entry) (length words) t.takes k t.known

pub whole_is : (entry : Entry) (words : Words) (key bytes : List ℕ) → IsTakenBy entry words → entry.kind ≡ One → key ≡ word words entry.key_at → bytes ≡ text (command_of words) → parts Same (part_of key bytes ∷ []) ≡ plan_of (read (command_of words))
whole_is entry words key bytes t k key_is bytes_is =
    let r = row_of entry in
    let some : 0 < length words = omega (arith, whole_inside entry words t k) in
    let whole : parts Same (part_of key bytes ∷ []) ≡ parts Same (part_at r.key_at words ∷ []) = ap₂ (λ k b. parts Same (part_of k b ∷ [])) key_is bytes_is in
    one_is r words (parts Same (part_of key bytes ∷ [])) k whole ∙ sym (taken_is entry words t some)

-- PING is answered here
ping_inside : (entry : Entry) (words : Words) → IsTakenBy entry words → entry.kind ≡ Ping → 0 < length words
ping_inside entry words t k =
    let same = eqb-true (length words) entry.least (subst (λ (z : Kind). takes z entry.least (length words) ≡ true) k t.takes) in
    omega (arith, same, ping_row (row_of entry) t.known k)

pub ping_is : (entry : Entry) (words : Words) → IsTakenBy entry words → entry.kind ≡ Ping → here Pong (simple (codes "PONG")) ≡ plan_of (read (command_of words))
ping_is entry words t k =
    ap (λ z. plan_by z (row_of entry) words) (sym k) ∙ sym (taken_is entry words t (ping_inside entry words t k))
