-- The words of a command, as they stand in its value.
use Rattle.std.proofs.Common.{◌≡◌, ◌<◌, ℕ, zero, suc, true, false, List, [], ◌∷◌, length, map, get_or, Global, refl, ap, ◌∙◌, arith}
use Rattle.std.specs.List.{list_all}
use Rattle.std.proofs.lemmas.Bool.{and_parts}
use Rattle.std.proofs.lemmas.List.{get_or-map, length-map}
use Rattle.bytes.specs.declared.shared.Bytes.{Bytes}
use Rattle.resp_core.specs.Tree.{Tree, Trees, simple, fault, whole, bulk, null_bulk, list, null_list, no_trees, tree, members, trees_of, is_plain_tree, are_plain_trees}
use Rattle.resp_core.specs.Value.{tree_of}
use Rattle.resp_core.specs.declared.value.Value.{Value}
use Rattle.resp_core.specs.declared.value.Value.TheVariants.{Simple, Fault, Whole, Bulk, NullBulk, NullList}
use Rattle.resp_core.specs.declared.value.Value.TheVariants as values
use Rattle.resp_core.specs.Laws.{CommandsArePlain}
use Rattle.resp_core.proofs.TreeLemmas.{members_trees}
use Rattle.resp_core.specs.Command.{is_bulk, payload_of, are_words, is_command, words_of, word}

pub is_command-list : (ts : List Tree) → is_command (list (trees_of ts)) ≡ are_words ts
is_command-list ts = ap are_words (members_trees ts)

pub words_of-list : (ts : List Tree) → words_of (list (trees_of ts)) ≡ map payload_of ts
words_of-list ts = ap (map payload_of) (members_trees ts)

bulk_at : (vs : List Value) (at : ℕ) (v : Value) → list_all is_bulk (map tree_of vs) ≡ true → at < length vs → is_bulk (tree_of (get_or vs at v)) ≡ true
bulk_at [] at v h l = absurd (omega (arith, l))
bulk_at (x ∷ vs) zero v h l = (and_parts (is_bulk (tree_of x)) (list_all is_bulk (map tree_of vs)) h).0
bulk_at (x ∷ vs) (suc at) v h l = bulk_at vs at v (and_parts (is_bulk (tree_of x)) (list_all is_bulk (map tree_of vs)) h).1 (omega (arith, l))

-- each word is a bulk string
pub is_bulk_at : (vs : List Value) (at : ℕ) (v : Value) → are_words (map tree_of vs) ≡ true → at < length (map tree_of vs) → is_bulk (tree_of (get_or vs at v)) ≡ true
is_bulk_at vs at v h l = bulk_at vs at v (and_parts _ (list_all is_bulk (map tree_of vs)) h).1 (omega (arith, l, length-map vs tree_of))

-- and its bytes are the word
pub word-payload : (vs : List Value) (at : ℕ) (v : Value) → at < length (map tree_of vs) → word (map payload_of (map tree_of vs)) at ≡ payload_of (tree_of (get_or vs at v))
word-payload vs at v l =
    get_or-map payload_of (map tree_of vs) at (tree_of v) [] l ∙ ap payload_of (get_or-map tree_of vs at v (tree_of v) (omega (arith, l, length-map vs tree_of)))

-- a value that is no array is no command
pub no_list : (v : Value) → ((ts : List Tree) → v ≡ values.List ts → ⊥) → is_command (tree_of v) ≡ false
no_list (Simple s) h = refl
no_list (Fault s) h = refl
no_list (Whole n) h = refl
no_list (Bulk s) h = refl
no_list NullBulk h = refl
no_list (values.List ts) h = absurd (h ts refl)
no_list NullList h = refl

-- a value that is no bulk string fails the test
pub no_bulk : (v : Value) → ((s : Bytes Global) → v ≡ Bulk s → ⊥) → is_bulk (tree_of v) ≡ true → ⊥
no_bulk (Simple s) h e = cc
no_bulk (Fault s) h e = cc
no_bulk (Whole n) h e = cc
no_bulk (Bulk s) h e = h s refl
no_bulk NullBulk h e = cc
no_bulk (values.List ts) h e = cc
no_bulk NullList h e = cc

-- a command is plain
bulk_is_plain : (t : Tree) → is_bulk t ≡ true → is_plain_tree t ≡ true
bulk_is_plain (simple s) h = absurd cc
bulk_is_plain (fault s) h = absurd cc
bulk_is_plain (whole n) h = refl
bulk_is_plain (bulk s) h = refl
bulk_is_plain null_bulk h = refl
bulk_is_plain (list ts) h = absurd cc
bulk_is_plain null_list h = refl

bulks_are_plain : (ts : Trees) → list_all is_bulk (members ts) ≡ true → are_plain_trees ts ≡ true
bulks_are_plain no_trees h = refl
bulks_are_plain (tree t ts) h =
    let parts = and_parts (is_bulk t) (list_all is_bulk (members ts)) h in
    rw (bulk_is_plain t parts.0, bulks_are_plain ts parts.1) refl

pub commands_are_plain : CommandsArePlain
commands_are_plain (simple s) h = absurd cc
commands_are_plain (fault s) h = absurd cc
commands_are_plain (whole n) h = refl
commands_are_plain (bulk s) h = refl
commands_are_plain null_bulk h = refl
commands_are_plain (list ts) h = bulks_are_plain ts (and_parts _ (list_all is_bulk (members ts)) h).1
commands_are_plain null_list h = refl
