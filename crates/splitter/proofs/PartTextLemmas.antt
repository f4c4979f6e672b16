-- The parts of a command, from one of its words to the next.
use Rattle.std.proofs.Common.{◌≡◌, ◌<◌, ◌≤◌, ◌+◌, ◌-◌, ◌*◌, ◌/◌, ◌++◌, ℕ, true, List, [], ◌∷◌, length, map, drop, decimal, refl, sym, ap, ◌∙◌, append_assoc, append-nil, arith}
use Rattle.std.specs.List.{list_all}
use Rattle.std.proofs.lemmas.Bool.{and_parts}
use Rattle.std.proofs.lemmas.List.{drop_more, drop_all, length-drop, length-map}
use Rattle.resp_core.specs.Tree.{Tree, simple, fault, whole, bulk, null_bulk, list, null_list, trees_of, is_plain_tree, are_plain_trees}
use Rattle.resp_core.specs.Value.{tree_of}
use Rattle.resp_core.specs.declared.value.Value.{Value}
use Rattle.resp_core.specs.Text.{line, text}
use Rattle.resp_core.specs.Command.{is_bulk, are_words, payload_of, word, command_of}
use Rattle.splitter.specs.declared.plans.PartPlan.{PartPlan}
use Rattle.splitter.specs.Split.{Words, pairs, part_at}
use Rattle.splitter.specs.Part.{head_of, part_of, key_parts_of}

-- a bulk string is that of its payload, and plain
bulk_is : (t : Tree) → is_bulk t ≡ true → (bulk (payload_of t) ≡ t) × (is_plain_tree t ≡ true)
bulk_is (simple s) h = absurd cc
bulk_is (fault s) h = absurd cc
bulk_is (whole n) h = absurd cc
bulk_is (bulk s) h = (refl, refl)
bulk_is null_bulk h = absurd cc
bulk_is (list ts) h = absurd cc
bulk_is null_list h = absurd cc

bulks_are : (ts : List Tree) → list_all is_bulk ts ≡ true → map bulk (map payload_of ts) ≡ ts
bulks_are [] h = refl
bulks_are (t ∷ ts) h =
    let p = and_parts (is_bulk t) (list_all is_bulk ts) h in
    rw ((bulk_is t p.0).0, bulks_are ts p.1) refl

plain_bulks : (ts : List Tree) → list_all is_bulk ts ≡ true → are_plain_trees (trees_of ts) ≡ true
plain_bulks [] h = refl
plain_bulks (t ∷ ts) h =
    let p = and_parts (is_bulk t) (list_all is_bulk ts) h in
    rw ((bulk_is t p.0).1, plain_bulks ts p.1) refl

-- a command is plain, and is that of its words
pub plain_words : (ts : List Tree) → are_words ts ≡ true → is_plain_tree (list (trees_of ts)) ≡ true
plain_words ts h = plain_bulks ts (and_parts _ (list_all is_bulk ts) h).1

pub command_of-payloads : (ts : List Tree) → are_words ts ≡ true → command_of (map payload_of ts) ≡ list (trees_of ts)
command_of-payloads ts h = ap (λ z. list (trees_of z)) (bulks_are ts (and_parts _ (list_all is_bulk ts) h).1)

-- the part of a key alone, and that of a key and its value
pub key_part-is : (name key : List ℕ) → part_of key (head_of 2 name ++ text (bulk key)) ≡ part_at 1 (name ∷ key ∷ [])
key_part-is name key =
    ap (part_of key) (append_assoc (line 42 (decimal 2)) (text (bulk name)) (text (bulk key)) ∙ ap (λ z. line 42 (decimal 2) ++ (text (bulk name) ++ z)) (sym (append-nil (text (bulk key)))))

pub pair_part-is : (name key value : List ℕ) → part_of key (head_of 3 name ++ text (bulk key) ++ text (bulk value)) ≡ part_at 1 (name ∷ key ∷ value ∷ [])
pair_part-is name key value =
    let l = line 42 (decimal 3) in
    let n = text (bulk name) in
    let k = text (bulk key) in
    let v = text (bulk value) in
    ap (part_of key)
    (append_assoc (l ++ n) k v ∙ append_assoc l n (k ++ v) ∙ ap (λ z. l ++ (n ++ (k ++ z))) (sym (append-nil v)))

-- one more word is done
pub keys_more : (f : List ℕ → PartPlan) (ps all : List PartPlan) (p : PartPlan) (words : Words) (at : ℕ) → at < length words → p ≡ f (word words at) → ps ++ map f (drop at words) ≡ all → (ps ++ p ∷ []) ++ map f (drop (at + 1) words) ≡ all
keys_more f ps all p words at l e h =
    append_assoc ps (p ∷ []) (map f (drop (at + 1) words)) ∙ ap (λ z. ps ++ z ∷ map f (drop (at + 1) words)) e ∙ ap (λ z. ps ++ map f z) (sym (drop_more words at [] l)) ∙ h

-- all are
pub keys_all : (f : List ℕ → PartPlan) (ps all : List PartPlan) (words : Words) (at : ℕ) → length words ≤ at → ps ++ map f (drop at words) ≡ all → ps ≡ all
keys_all f ps all words at l h = sym (append-nil ps) ∙ ap (λ z. ps ++ map f z) (sym (drop_all at words l)) ∙ h

-- the parts of keys whose head is that of a command of this name
pub named_parts : (name head : List ℕ) (keys : Words) → head ≡ head_of 2 name → key_parts_of head keys ≡ map (λ key. part_at 1 (name ∷ key ∷ [])) keys
named_parts name head [] e = refl
named_parts name head (key ∷ keys) e =
    ap (λ z. z ∷ key_parts_of head keys) (ap (λ z. part_of key (z ++ text (bulk key))) e ∙ key_part-is name key)
    ∙ ap (λ z. part_at 1 (name ∷ key ∷ []) ∷ z) (named_parts name head keys e)

-- one more pair is done
pub pairs_more : (f : List ℕ × List ℕ → PartPlan) (ps all : List PartPlan) (p : PartPlan) (words : Words) (i : ℕ) → 2 * i + 2 < length words → p ≡ f (word words (2 * i + 1), word words (2 * i + 2)) → ps ++ map f (pairs (drop (2 * i + 1) words)) ≡ all → (ps ++ p ∷ []) ++ map f (pairs (drop (2 * (i + 1) + 1) words)) ≡ all
pairs_more f ps all p words i l e h =
    let next : 2 * (i + 1) + 1 ≡ 2 * i + 2 + 1 = omega arith in
    let two : 2 * i + 1 + 1 ≡ 2 * i + 2 = omega arith in
    let first : drop (2 * i + 1) words ≡ word words (2 * i + 1) ∷ word words (2 * i + 2) ∷ drop (2 * (i + 1) + 1) words =
    drop_more words (2 * i + 1) [] (omega (arith, l)) ∙ ap (λ z. word words (2 * i + 1) ∷ drop z words) two
    ∙ ap (λ z. word words (2 * i + 1) ∷ z) (drop_more words (2 * i + 2) [] l)
    ∙ ap (λ z. word words (2 * i + 1) ∷ word words (2 * i + 2) ∷ drop z words) (sym next) in
    append_assoc ps (p ∷ []) (map f (pairs (drop (2 * (i + 1) + 1) words))) ∙ ap (λ z. ps ++ z ∷ map f (pairs (drop (2 * (i + 1) + 1) words))) e
    ∙ ap (λ z. ps ++ map f (pairs z)) (sym first) ∙ h

no_pair : (words : Words) → length words ≤ 1 → pairs words ≡ []
no_pair [] l = refl
no_pair (a ∷ []) l = refl
no_pair (a ∷ b ∷ words) l = absurd (omega (arith, l))

-- all are: no two words are left
pub pairs_all : (f : List ℕ × List ℕ → PartPlan) (ps all : List PartPlan) (words : Words) (i : ℕ) → (length words - 1) / 2 ≤ i → ps ++ map f (pairs (drop (2 * i + 1) words)) ≡ all → ps ≡ all
pairs_all f ps all words i l h =
    let few : length (drop (2 * i + 1) words) ≤ 1 = omega (arith, l, length-drop (2 * i + 1) words) in
    sym (append-nil ps) ∙ ap (λ z. ps ++ map f z) (sym (no_pair (drop (2 * i + 1) words) few)) ∙ h

-- a command has as many words as its value has members
pub words_length : (vs : List Value) (ts : List Tree) → map tree_of vs ≡ ts → length (map payload_of ts) ≡ length vs
words_length vs ts e = length-map ts payload_of ∙ ap length (sym e) ∙ length-map vs tree_of

-- the part of a whole command
pub whole_part-is : (t : Tree) (ts : List Tree) (key bytes : List ℕ) (at : ℕ) → are_words ts ≡ true → t ≡ list (trees_of ts) → key ≡ word (map payload_of ts) at → bytes ≡ text t → part_of key bytes ≡ part_at at (map payload_of ts)
whole_part-is t ts key bytes at h e k b =
    ap (λ z. part_of z bytes) k ∙ ap (part_of (word (map payload_of ts) at)) (b ∙ ap text (e ∙ sym (command_of-payloads ts h)))
