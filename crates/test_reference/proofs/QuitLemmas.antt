-- Which requests end a connection.
use Rattle.std.proofs.Common.{◌≡◌, ◌<◌, ◌==◌, Bool, true, false, List, Option, Some, None, Contains, length, map, nat_lt, refl, sym, ap, ◌∙◌, subst, inl, inr, arith}
use Rattle.std.specs.List.{list_all}
use Rattle.std.proofs.lemmas.Bool.{cases_Bool, and_parts, eqb-true, leb-false, ltb-true}
use Rattle.std.proofs.lemmas.List.{length-map}
use Rattle.list_lemmas.proofs.CallerLemmas.{list_all-get_or}
use Rattle.resp_core.specs.Tree.{Tree, bulk}
use Rattle.resp_core.specs.Command.{is_bulk, is_command, are_words, command_of, payload_of, word, IsArrayOf}
use Rattle.resp_core.proofs.CallerLemmas.{command_of_is_command, is_command-list, payloads}
use Rattle.command_table.specs.Names.{one_key_names}
use Rattle.command_table.specs.Table.{Row, rows, row_named}
use Rattle.command_table.proofs.CallerLemmas.{found_stands_in_table}
use Rattle.command_table.specs.declared.Kind.{Kind}
use Rattle.command_table.specs.declared.Kind.TheVariants.{Ping, Echo, Quit, One, SplitGet, SplitSet, SplitSum}
use Rattle.splitter.specs.Request.{read}
use Rattle.splitter.specs.Plan.{takes, plan_by, plan_by_row, plan_of, is_last}
use Rattle.splitter.specs.Split.{Words}
use Rattle.test_reference.specs.Scan.{is_quit_kind, is_quit_row}
use Rattle.splitter.proofs.CallerLemmas.{plan_of-command}

-- each QUIT of the table takes one word: tried here over the table
abbrev takes_one_word : Kind → Row → Bool
takes_one_word Quit r = r.least == 1
takes_one_word Ping r = true
takes_one_word Echo r = true
takes_one_word One r = true
takes_one_word SplitGet r = true
takes_one_word SplitSet r = true
takes_one_word SplitSum r = true

good_rows : list_all (λ r. takes_one_word r.kind r) rows ≡ true
unfolding rows one_key_names
good_rows = refl

quit_row : (r : Row) → Contains rows r → r.kind ≡ Quit → r.least ≡ 1
quit_row r (place, within, is) e =
    let good = subst (λ (z : Row). takes_one_word z.kind z ≡ true) is (list_all-get_or (λ z. takes_one_word z.kind z) rows place r good_rows within) in
    eqb-true r.least 1 (subst (λ (z : Kind). takes_one_word z r ≡ true) e good)

last_by : (kind : Kind) (r : Row) (words : Words) → is_last (plan_by kind r words) ≡ is_quit_kind kind
last_by Quit r words = refl
last_by Ping r words = refl
last_by Echo r words = refl
last_by One r words = refl
last_by SplitGet r words = refl
last_by SplitSet r words = refl
last_by SplitSum r words = refl

-- with a wrong number of words a command is no QUIT
wrong_is_no_quit : (kind : Kind) (r : Row) (words : Words) → r.kind ≡ kind → Contains rows r → 0 < length words → takes kind r.least (length words) ≡ false → false ≡ is_quit_kind kind
wrong_is_no_quit Quit r words e known l t =
    let least : r.least ≡ 1 = quit_row r known e in
    let at_most : length words < r.least = leb-false r.least (length words) t in
    absurd (omega (arith, least, at_most, l))
wrong_is_no_quit Ping r words e known l t = refl
wrong_is_no_quit Echo r words e known l t = refl
wrong_is_no_quit One r words e known l t = refl
wrong_is_no_quit SplitGet r words e known l t = refl
wrong_is_no_quit SplitSet r words e known l t = refl
wrong_is_no_quit SplitSum r words e known l t = refl

last_by_row : (o : Option Row) (words : Words) → row_named (word words 0) ≡ o → 0 < length words → is_quit_row o ≡ is_last (plan_by_row o words)
last_by_row None words e l = refl
last_by_row (Some r) words e l = elim (cases_Bool (takes r.kind r.least (length words))) [
  | inl t ↦ rw t (sym (last_by r.kind r words))
  | inr t ↦ rw t (sym (wrong_is_no_quit r.kind r words refl (found_stands_in_table r (word words 0) e).0 l t))
]

-- a command ends its connection exactly if it is QUIT
pub command_leaves : (t : Tree) (ts : List Tree) → is_command t ≡ true → are_words ts ≡ true → IsArrayOf ts t → is_quit_row (row_named (word (map payload_of ts) 0)) ≡ is_last (plan_of (read t))
command_leaves t ts c w is =
    let some : 0 < length (map payload_of ts) = omega (arith, length-map ts payload_of, ltb-true 0 (length ts) (and_parts (nat_lt 0 (length ts)) (list_all is_bulk ts) w).0) in
    last_by_row (row_named (word (map payload_of ts) 0)) (map payload_of ts) refl some ∙ ap is_last (sym (plan_of-command t ts c is))

pub text_leaves : (words : Words) → 0 < length words → is_quit_row (row_named (word words 0)) ≡ is_last (plan_of (read (command_of words)))
text_leaves words some =
    let command = command_of_is_command words some in
    ap (λ z. is_quit_row (row_named (word z 0))) (sym (payloads words))
    ∙ command_leaves (command_of words) (map bulk words) command (sym (is_command-list (map bulk words)) ∙ command) refl
