-- The parts of a command are commands, no longer than it.
use Rattle.std.proofs.Common.{◌≡◌, ◌<◌, ◌≤◌, ◌+◌, ◌++◌, ◌^◌, ℕ, zero, suc, true, ltb, nat_le, List, [], ◌∷◌, Option, Some, None, All, Contains, length, map, get_or, decimal, codes, inl, inr, refl, sym, ap, ◌∙◌, subst, arith}
use Rattle.std.specs.List.{list_all}
use Rattle.std.specs.Str.{str_to_ascii_uppercase}
use Rattle.std.specs.Fmt.{digits}
use Rattle.std.specs.Char.{to_ascii_uppercase, to_ascii_lowercase}
use Rattle.std.proofs.lemmas.Bool.{cases_Bool, and_parts, lt-ltb, ltb-true, leb-true}
use Rattle.std.proofs.lemmas.Fmt.{decimal_nonempty}
use Rattle.std.proofs.lemmas.List.{length-append, length-map}
use Rattle.resp_core.specs.Tree.{Tree, simple, fault, whole, bulk, null_bulk, list, null_list, members, trees_of, is_plain_tree}
use Rattle.resp_core.specs.Text.{line, line_end, text, texts}
use Rattle.resp_core.specs.Grammar.{max_bulk, max_text, max_depth}
use Rattle.resp_core.specs.ValueLimits.{IsWithin, AreWithin}
use Rattle.resp_core.specs.Laws.{Holds}
use Rattle.resp_core.specs.Command.{is_bulk, is_command, payload_of, words_of, word, command_of}
use Rattle.resp_core.proofs.CallerLemmas.{length_members, trees_of-members, text_is_read_back, is_command-list}
use Rattle.command_table.specs.Table.{Row, rows, row_named}
use Rattle.command_table.specs.declared.Kind.{Kind}
use Rattle.command_table.specs.declared.Kind.TheVariants.{Ping, Echo, Quit, One, SplitGet, SplitSet, SplitSum}
use Rattle.command_table.proofs.CallerLemmas.{found_stands_in_table}
use Rattle.limits.specs.declared.messages.TheConstants.{MAX_CLIENT_MEMBERS}
use Rattle.splitter.specs.declared.plans.Join.{Join}
use Rattle.splitter.specs.declared.plans.Join.TheVariants.{Same, Get, Set, Sum}
use Rattle.splitter.specs.declared.plans.PartPlan.{PartPlan}
use Rattle.splitter.specs.Request.{read}
use Rattle.splitter.specs.Plan.{parts, takes, plan_by, plan_by_row, plan_of}
use Rattle.splitter.specs.Split.{Words, pairs, part_at}
use Rattle.splitter.specs.Join.{MayJoin}
use Rattle.splitter.specs.Laws.{IsPart, PartsAreCommands, PartsKeepLimits, IsReadFirst, PartsAreReadBack}
use Rattle.splitter.proofs.RowLemmas.{one_row, get_row, set_row, sum_row}
use Rattle.splitter.proofs.PartTextLemmas.{command_of-payloads}

-- what holds of each element, by recursion
pub all_none : {X : Type 0} (P : X → Type 0) → All P []
all_none P k d l = absurd (omega (arith, l))

pub all_more : {X : Type 0} (P : X → Type 0) (x : X) (xs : List X) → P x → All P xs → All P (x ∷ xs)
all_more P x xs h g zero d l = h
all_more P x xs h g (suc k) d l = g k d (omega (arith, l))

pub all_made : {X Y : Type 0} (P : Y → Type 0) (f : X → Y) (xs : List X) → All (λ x. P (f x)) xs → All P (map f xs)
all_made P f [] h = all_none P
all_made P f (x ∷ xs) h = all_more P (f x) (map f xs) (h zero x (omega arith)) (all_made P f xs (λ k d l. h (suc k) d (omega (arith, l))))

-- the bytes of a word's text, and of the texts of words
pub word_len : List ℕ → ℕ
word_len w = length (text (bulk w))

pub words_len : Words → ℕ
words_len ws = length (texts (trees_of (map bulk ws)))

word_len-is : (w : List ℕ) → word_len w ≡ length (decimal (length w)) + length w + 5
unfolding word_len
word_len-is w =
    let d = decimal (length w) in
    omega (arith, length-append (line 36 d ++ w) line_end, length-append (line 36 d) w, length-append (36 ∷ d) line_end)

words_len-more : (w : List ℕ) (ws : Words) → words_len (w ∷ ws) ≡ word_len w + words_len ws
unfolding word_len words_len
words_len-more w ws = length-append (text (bulk w)) (texts (trees_of (map bulk ws)))

-- a command's text has a head of its own and the texts of its words
command_len : (ws : Words) → length (text (command_of ws)) ≡ 3 + length (decimal (length ws)) + words_len ws
unfolding words_len
command_len ws =
    let all = texts (trees_of (map bulk ws)) in
    let d = decimal (length (members (trees_of (map bulk ws)))) in
    let same : length d ≡ length (decimal (length ws)) = ap (λ z. length (decimal z)) (length_members bulk ws) in
    omega (arith, length-append (line 42 d) all, length-append (42 ∷ d) line_end, same)

word_short : (ws : Words) (k : ℕ) (d : List ℕ) → k < length ws → word_len (get_or ws k d) ≤ words_len ws
word_short [] k d l = absurd (omega (arith, l))
word_short (w ∷ ws) zero d l = omega (arith, words_len-more w ws)
word_short (w ∷ ws) (suc k) d l = omega (arith, words_len-more w ws, word_short ws k d (omega (arith, l)))

-- each word of a command within limits is
word_within : (most left : ℕ) (ws : Words) (k : ℕ) (d : List ℕ) → AreWithin most left (trees_of (map bulk ws)) → k < length ws → length (get_or ws k d) ≤ max_bulk
word_within most left [] k d h l = absurd (omega (arith, l))
word_within most left (w ∷ ws) zero d h l = h.0
word_within most left (w ∷ ws) (suc k) d h l = word_within most left ws k d h.1 (omega (arith, l))

-- at least one word makes a command
bulks_pass : (ws : Words) → list_all is_bulk (map bulk ws) ≡ true
bulks_pass [] = refl
bulks_pass (w ∷ ws) = bulks_pass ws

command_of-is : (ws : Words) → 0 < length ws → is_command (command_of ws) ≡ true
command_of-is ws l =
    let some = lt-ltb 0 (length (map bulk ws)) (omega (arith, l, length-map ws bulk)) in
    is_command-list (map bulk ws) ∙ rw (some, bulks_pass ws) refl

-- a part of a command of these words, which keeps the limits that it keeps and is no longer
abbrev IsPartOf : Words → PartPlan → Type 0
IsPartOf ws p = (words : Words) × IsPart p words × (IsWithin MAX_CLIENT_MEMBERS max_depth (command_of ws) → IsWithin MAX_CLIENT_MEMBERS max_depth (command_of words) × (length p.text ≤ length (text (command_of ws))))

-- these words make a command that keeps the limits that the command of those words keeps, and is no longer
abbrev pub Keeps : Words → Words → Type 0
Keeps ws words = IsWithin MAX_CLIENT_MEMBERS max_depth (command_of ws) → IsWithin MAX_CLIENT_MEMBERS max_depth (command_of words) × (length (text (command_of words)) ≤ length (text (command_of ws)))

whole_part : (ws : Words) (at : ℕ) → 0 < at → at < length ws → IsPartOf ws (part_at at ws)
whole_part ws at low high = (
  ws,
  record { command = command_of-is ws (omega (arith, high)); key_at = at; behind_name = low; inside = high; part_is = refl },
  λ h. (h, omega arith),
)

some_digit : (n : ℕ) → n < 2 ^ 64 → 0 < length (decimal n)
some_digit n l = decimal_nonempty n l

one_digit : (length (decimal 2) ≡ 1) × (length (decimal 3) ≡ 1)
unfolding digits
one_digit = (refl, refl)

words_len-none : words_len [] ≡ 0
unfolding words_len
words_len-none = refl

-- of a command within limits the number of words has a digit
counted : (ws : Words) → IsWithin MAX_CLIENT_MEMBERS max_depth (command_of ws) → 0 < length (decimal (length ws))
counted ws h = some_digit (length ws) (omega (arith, h.0, length_members bulk ws))

key_text_short : (w0 : List ℕ) (rest : Words) (name key : List ℕ) → word_len name ≤ word_len w0 → word_len key ≤ words_len rest → 0 < length (decimal (length (w0 ∷ rest))) → length (text (command_of (name ∷ key ∷ []))) ≤ length (text (command_of (w0 ∷ rest)))
key_text_short w0 rest name key short long some =
    omega (arith, command_len (name ∷ key ∷ []), command_len (w0 ∷ rest), words_len-more name (key ∷ []), words_len-more key [], words_len-none, words_len-more w0 rest, short, long, some, one_digit.0)

pair_text_short : (w0 : List ℕ) (rest : Words) (name key value : List ℕ) → word_len name ≤ word_len w0 → word_len key + word_len value ≤ words_len rest → 0 < length (decimal (length (w0 ∷ rest))) → length (text (command_of (name ∷ key ∷ value ∷ []))) ≤ length (text (command_of (w0 ∷ rest)))
pair_text_short w0 rest name key value short long some =
    omega (arith, command_len (name ∷ key ∷ value ∷ []), command_len (w0 ∷ rest), words_len-more name (key ∷ value ∷ []), words_len-more key (value ∷ []), words_len-more value [], words_len-none, words_len-more w0 rest, short, long, some, one_digit.1)

-- the name that a part has in place of the first word
pub record Names (name w0 : List ℕ) : Type 0 where
  pub small : length name ≤ length w0
  pub short : length w0 ≤ max_bulk → word_len name ≤ word_len w0

-- a key alone
pub key_keeps : (w0 : List ℕ) (rest : Words) (name : List ℕ) → Names name w0 → (k : ℕ) (d : List ℕ) → k < length rest → Keeps (w0 ∷ rest) (name ∷ get_or rest k d ∷ [])
key_keeps w0 rest name n k d l = λ h. let (_, (first_within, rest_within)) = h in (
  (omega arith, (omega (arith, n.small, first_within), (word_within MAX_CLIENT_MEMBERS 7 rest k d rest_within l, tt))),
  key_text_short w0 rest name (get_or rest k d) (n.short first_within) (word_short rest k d l) (counted (w0 ∷ rest) h),
)

key_part : (w0 : List ℕ) (rest : Words) (name : List ℕ) → Names name w0 → (k : ℕ) (d : List ℕ) → k < length rest → IsPartOf (w0 ∷ rest) (part_at 1 (name ∷ get_or rest k d ∷ []))
key_part w0 rest name n k d l = (
  name ∷ get_or rest k d ∷ [],
  record { command = refl; key_at = 1; behind_name = omega arith; inside = omega arith; part_is = refl },
  key_keeps w0 rest name n k d l,
)

-- what holds of a key and its value among words
abbrev pub IsPairIn : Words → List ℕ × List ℕ → Type 0
IsPairIn ws p = (AreWithin MAX_CLIENT_MEMBERS 7 (trees_of (map bulk ws)) → (length p.0 ≤ max_bulk) × (length p.1 ≤ max_bulk)) × (word_len p.0 + word_len p.1 ≤ words_len ws)

pair_further : (a b : List ℕ) (ws : Words) (p : List ℕ × List ℕ) → IsPairIn ws p → IsPairIn (a ∷ b ∷ ws) p
pair_further a b ws p h = (λ g. let (_, (_, rest_within)) = g in h.0 rest_within, omega (arith, h.1, words_len-more a (b ∷ ws), words_len-more b ws))

pub pairs_in : (ws : Words) → All (IsPairIn ws) (pairs ws)
pairs_in [] = all_none (IsPairIn [])
pairs_in (a ∷ []) = all_none (IsPairIn (a ∷ []))
pairs_in (a ∷ b ∷ ws) =
    all_more (IsPairIn (a ∷ b ∷ ws)) (a, b) (pairs ws) (λ g. (g.0, g.1.0), omega (arith, words_len-more a (b ∷ ws), words_len-more b ws))
    (λ k d l. pair_further a b ws (get_or (pairs ws) k d) (pairs_in ws k d l))

-- a key and its value
pub pair_keeps : (w0 : List ℕ) (rest : Words) (name : List ℕ) (p : List ℕ × List ℕ) → Names name w0 → IsPairIn rest p → Keeps (w0 ∷ rest) (name ∷ p.0 ∷ p.1 ∷ [])
pair_keeps w0 rest name p n g = λ h. let (_, (first_within, rest_within)) = h in (
  (omega arith, (omega (arith, n.small, first_within), ((g.0 rest_within).0, ((g.0 rest_within).1, tt)))),
  pair_text_short w0 rest name p.0 p.1 (n.short first_within) g.1 (counted (w0 ∷ rest) h),
)

pair_part : (w0 : List ℕ) (rest : Words) (name : List ℕ) (p : List ℕ × List ℕ) → Names name w0 → IsPairIn rest p → IsPartOf (w0 ∷ rest) (part_at 1 (name ∷ p.0 ∷ p.1 ∷ []))
pair_part w0 rest name p n g = (
  name ∷ p.0 ∷ p.1 ∷ [],
  record { command = refl; key_at = 1; behind_name = omega arith; inside = omega arith; part_is = refl },
  pair_keeps w0 rest name p n g,
)

-- names of three bytes in place of longer ones, and names of the same length
pub three_names : (name w0 : List ℕ) → length name ≡ 3 → 2 < length w0 → Names name w0
three_names name w0 e l = record {
  small = omega (arith, e, l);
  short = λ h. omega (arith, word_len-is name, word_len-is w0, ap (λ z. length (decimal z)) e, one_digit.1, some_digit (length w0) (omega (arith, h)), e, l);
}

pub same_names : (name w0 : List ℕ) → length name ≡ length w0 → Names name w0
same_names name w0 e = record {
  small = omega (arith, e);
  short = λ h. omega (arith, word_len-is name, word_len-is w0, ap (λ z. length (decimal z)) e, e);
}

abbrev ArePartsOf : Words → Join → List PartPlan → Type 0
ArePartsOf ws how ps = MayJoin how (length ps) × All (IsPartOf ws) ps

carried : (ws : Words) (how how' : Join) (ps ps' : List PartPlan) → parts how ps ≡ parts how' ps' → ArePartsOf ws how ps → ArePartsOf ws how' ps'
carried ws how how' ps ps' e h =
    let a : how ≡ how' = cc in
    let b : ps ≡ ps' = cc in
    subst (λ (z : Join). ArePartsOf ws z ps') a (subst (λ (z : List PartPlan). ArePartsOf ws how z) b h)

-- parts of a key each, and parts of a key and its value each
key_parts : (w0 : List ℕ) (rest : Words) (name : List ℕ) → Names name w0 → All (IsPartOf (w0 ∷ rest)) (map (part_at 1) (map (λ key. name ∷ key ∷ []) rest))
key_parts w0 rest name n =
    all_made (IsPartOf (w0 ∷ rest)) (part_at 1) (map (λ key. name ∷ key ∷ []) rest)
    (all_made (λ w. IsPartOf (w0 ∷ rest) (part_at 1 w)) (λ key. name ∷ key ∷ []) rest (key_part w0 rest name n))

pair_parts : (w0 : List ℕ) (rest : Words) (name : List ℕ) → Names name w0 → All (IsPartOf (w0 ∷ rest)) (map (part_at 1) (map (λ p. name ∷ p.0 ∷ p.1 ∷ []) (pairs rest)))
pair_parts w0 rest name n =
    all_made (IsPartOf (w0 ∷ rest)) (part_at 1) (map (λ p. name ∷ p.0 ∷ p.1 ∷ []) (pairs rest))
    (all_made (λ w. IsPartOf (w0 ∷ rest) (part_at 1 w)) (λ p. name ∷ p.0 ∷ p.1 ∷ []) (pairs rest) (λ k d l. pair_part w0 rest name (get_or (pairs rest) k d) n (pairs_in rest k d l)))

made_twice : {A B C : Type 0} (f : B → C) (g : A → B) (xs : List A) → length (map f (map g xs)) ≡ length xs
made_twice f g xs = length-map (map g xs) f ∙ length-map xs g

some_pair : (ws : Words) → 1 < length ws → 1 ≤ length (pairs ws)
some_pair [] l = absurd (omega (arith, l))
some_pair (a ∷ []) l = absurd (omega (arith, l))
some_pair (a ∷ b ∷ ws) l = omega arith

-- the parts of a command of the table, by its kind
by_kind : (kind : Kind) (r : Row) (w0 : List ℕ) (rest : Words) (how : Join) (ps : List PartPlan) → r.kind ≡ kind → Contains rows r → length w0 ≡ length r.name → takes kind r.least (length (w0 ∷ rest)) ≡ true → plan_by kind r (w0 ∷ rest) ≡ parts how ps → ArePartsOf (w0 ∷ rest) how ps
by_kind Ping r w0 rest how ps k known same h e = absurd cc
by_kind Echo r w0 rest how ps k known same h e = absurd cc
by_kind Quit r w0 rest how ps k known same h e = absurd cc
by_kind One r w0 rest how ps k known same h e =
    let (low, high) = one_row r known k in
    let least = leb-true r.least (length (w0 ∷ rest)) h in
    carried (w0 ∷ rest) Same how (part_at r.key_at (w0 ∷ rest) ∷ []) ps (rw k at e)
    (refl, all_more (IsPartOf (w0 ∷ rest)) (part_at r.key_at (w0 ∷ rest)) [] (whole_part (w0 ∷ rest) r.key_at low (omega (arith, high, least))) (all_none (IsPartOf (w0 ∷ rest))))
by_kind SplitGet r w0 rest how ps k known same h e =
    let (low, at, long) = get_row r known k in
    let least = leb-true r.least (length (w0 ∷ rest)) h in
    let f : List ℕ → Words = λ key. codes "GET" ∷ key ∷ [] in
    carried (w0 ∷ rest) Get how (map (part_at 1) (map f rest)) ps (rw (k, at) at e)
    (omega (arith, made_twice (part_at 1) f rest, low, least), key_parts w0 rest (codes "GET") (three_names (codes "GET") w0 refl (omega (arith, same, long))))
by_kind SplitSet r w0 rest how ps k known same h e =
    let (low, at, long) = set_row r known k in
    let least = leb-true r.least (length (w0 ∷ rest)) (and_parts (nat_le r.least (length (w0 ∷ rest))) _ h).0 in
    let f : List ℕ × List ℕ → Words = λ p. codes "SET" ∷ p.0 ∷ p.1 ∷ [] in
    carried (w0 ∷ rest) Set how (map (part_at 1) (map f (pairs rest))) ps (rw (k, at) at e)
    (omega (arith, made_twice (part_at 1) f (pairs rest), some_pair rest (omega (arith, low, least))), pair_parts w0 rest (codes "SET") (three_names (codes "SET") w0 refl (omega (arith, same, long))))
by_kind SplitSum r w0 rest how ps k known same h e =
    let (low, at) = sum_row r known k in
    let least = leb-true r.least (length (w0 ∷ rest)) h in
    let f : List ℕ → Words = λ key. str_to_ascii_uppercase r.name ∷ key ∷ [] in
    carried (w0 ∷ rest) Sum how (map (part_at 1) (map f rest)) ps (rw (k, at) at e)
    (omega (arith, made_twice (part_at 1) f rest, low, least), key_parts w0 rest (str_to_ascii_uppercase r.name) (same_names (str_to_ascii_uppercase r.name) w0 (length-map r.name to_ascii_uppercase ∙ sym same)))

by_row : (o : Option Row) (w0 : List ℕ) (rest : Words) (how : Join) (ps : List PartPlan) → row_named w0 ≡ o → plan_by_row o (w0 ∷ rest) ≡ parts how ps → ArePartsOf (w0 ∷ rest) how ps
by_row None w0 rest how ps f e = absurd cc
by_row (Some r) w0 rest how ps f e =
    let (known, name) = found_stands_in_table r w0 f in
    let same : length w0 ≡ length r.name = sym (length-map w0 to_ascii_lowercase) ∙ ap length name in
    elim (cases_Bool (takes r.kind r.least (length (w0 ∷ rest)))) [
      | inl h ↦ by_kind r.kind r w0 rest how ps refl known same h (rw h at e)
      | inr h ↦ let g = rw h at e in absurd (cc g)
    ]

-- a command is that of its words
pub command_words : (t : Tree) → is_command t ≡ true → t ≡ command_of (words_of t)
command_words (simple s) h = absurd cc
command_words (fault s) h = absurd cc
command_words (whole n) h = absurd cc
command_words (bulk s) h = absurd cc
command_words null_bulk h = absurd cc
command_words (list ts) h = sym (command_of-payloads (members ts) h ∙ ap list (trees_of-members ts))
command_words null_list h = absurd cc

pub some_words : (t : Tree) → is_command t ≡ true → 0 < length (words_of t)
some_words (simple s) h = absurd cc
some_words (fault s) h = absurd cc
some_words (whole n) h = absurd cc
some_words (bulk s) h = absurd cc
some_words null_bulk h = absurd cc
some_words (list ts) h = omega (arith, ltb-true 0 (length (members ts)) (and_parts (ltb 0 (length (members ts))) (list_all is_bulk (members ts)) h).0, length-map (members ts) payload_of)
some_words null_list h = absurd cc

by_words : (ws : Words) (how : Join) (ps : List PartPlan) → 0 < length ws → plan_by_row (row_named (word ws 0)) ws ≡ parts how ps → ArePartsOf ws how ps
by_words [] how ps l e = absurd (omega (arith, l))
by_words (w0 ∷ rest) how ps l e = by_row (row_named w0) w0 rest how ps refl e

planned : (t : Tree) (how : Join) (ps : List PartPlan) → plan_of (read t) ≡ parts how ps → (t ≡ command_of (words_of t)) × ArePartsOf (words_of t) how ps
planned t how ps e =
    elim (cases_Bool (is_command t)) [
      | inl f ↦ (command_words t f, by_words (words_of t) how ps (some_words t f) (rw f at e))
      | inr f ↦ let g = rw f at e in absurd (cc g)
    ]

pub parts_are_commands : PartsAreCommands
parts_are_commands t how ps e =
    let (is, (some, all)) = planned t how ps e in (some, λ k d l. ((all k d l).0, (all k d l).1))

pub parts_keep_limits : PartsKeepLimits
parts_keep_limits t how ps e within k d l =
    let (is, (some, all)) = planned t how ps e in
    let (words, is_part, limits) = all k d l in
    let (keeps, short) = limits (subst (λ (z : Tree). IsWithin MAX_CLIENT_MEMBERS max_depth z) is within) in
    (words, is_part, keeps, subst (λ (z : Tree). length (get_or ps k d).text ≤ length (text z)) (sym is) short)

-- a command is plain
pub plain_command : (ws : Words) → is_plain_tree (command_of ws) ≡ true
plain_command [] = refl
plain_command (w ∷ ws) = plain_command ws

read_first : (t : Tree) (words : Words) (p : PartPlan) → IsPart p words → IsWithin MAX_CLIENT_MEMBERS max_depth (command_of words) → length p.text ≤ length (text t) → length (text t) ≤ max_text → IsReadFirst p.text (command_of words)
read_first t words p part within short few more ts refused h =
    let is : p.text ≡ text (command_of words) = ap (λ z. z.text) part.part_is in
    text_is_read_back MAX_CLIENT_MEMBERS (command_of words) more ts refused (omega arith) within (plain_command words) (omega (arith, ap length is, short, few))
    (subst (λ (z : List ℕ). Holds MAX_CLIENT_MEMBERS (z ++ more) ts refused) is h)

pub parts_are_read_back : PartsAreReadBack
parts_are_read_back t how ps e within few k d l =
    let (words, part, keeps, short) = parts_keep_limits t how ps e within k d l in
    (words, part, read_first t words (get_or ps k d) part keeps short few)
