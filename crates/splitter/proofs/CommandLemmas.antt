-- The commands that hosts are asked for a request.
use Rattle.std.proofs.Common.{◌≡◌, ◌<◌, ◌≤◌, ℕ, List, [], ◌∷◌, Option, Some, None, All, Contains, length, map, get_or, codes, inl, inr, refl, sym, ap, ◌∙◌, subst, arith}
use Rattle.std.specs.Str.{str_to_ascii_uppercase}
use Rattle.std.specs.Char.{to_ascii_uppercase, to_ascii_lowercase}
use Rattle.std.proofs.lemmas.Bool.{cases_Bool}
use Rattle.std.proofs.lemmas.List.{length-map}
use Rattle.resp_core.specs.Tree.{Tree}
use Rattle.resp_core.specs.Text.{text}
use Rattle.resp_core.specs.Grammar.{max_depth}
use Rattle.resp_core.specs.ValueLimits.{IsWithin}
use Rattle.resp_core.specs.Command.{is_command, words_of, word, command_of}
use Rattle.command_table.specs.Table.{Row, rows, row_named}
use Rattle.command_table.specs.declared.Kind.{Kind}
use Rattle.command_table.specs.declared.Kind.TheVariants.{Ping, Echo, Quit, One, SplitGet, SplitSet, SplitSum}
use Rattle.command_table.proofs.CallerLemmas.{found_stands_in_table}
use Rattle.limits.specs.declared.messages.TheConstants.{MAX_CLIENT_MEMBERS}
use Rattle.splitter.specs.declared.plans.Join.{Join}
use Rattle.splitter.specs.declared.plans.PartPlan.{PartPlan}
use Rattle.splitter.specs.Request.{read, broken}
use Rattle.splitter.specs.Plan.{parts, takes, plan_by, plan_by_row}
use Rattle.splitter.specs.Split.{Words, pairs, split, split_by, part_at}
use Rattle.splitter.specs.Commands.{commands_by_row}
use Rattle.splitter.specs.Laws.{PartsAreOfCommands, CommandsKeepLimits}
use Rattle.splitter.proofs.RowLemmas.{get_row, set_row}
use Rattle.splitter.proofs.PartLemmas.{all_none, all_more, all_made, Keeps, key_keeps, pair_keeps, pairs_in, three_names, same_names, command_words, some_words}

-- WHICH PARTS

same_parts : (how how' : Join) (ps ps' : List PartPlan) → parts how ps ≡ parts how' ps' → ps' ≡ ps
same_parts how how' ps ps' e = let a : ps ≡ ps' = cc in sym a

of_kind : (kind : Kind) (r : Row) (words : Words) (how : Join) (ps : List PartPlan) → plan_by kind r words ≡ parts how ps → ps ≡ map (part_at r.key_at) (split r words)
of_kind Ping r words how ps e = absurd cc
of_kind Echo r words how ps e = absurd cc
of_kind Quit r words how ps e = absurd cc
of_kind One r words how ps e = same_parts _ how _ ps e
of_kind SplitGet r words how ps e = same_parts _ how _ ps e
of_kind SplitSet r words how ps e = same_parts _ how _ ps e
of_kind SplitSum r words how ps e = same_parts _ how _ ps e

of_row : (o : Option Row) (words : Words) (how : Join) (ps : List PartPlan) → plan_by_row o words ≡ parts how ps → (key_at : ℕ) × (ps ≡ map (part_at key_at) (commands_by_row o words))
of_row None words how ps e = absurd cc
of_row (Some r) words how ps e = elim (cases_Bool (takes r.kind r.least (length words))) [
  | inl h ↦ (r.key_at, rw h (of_kind r.kind r words how ps (rw h at e)))
  | inr h ↦ let g = rw h at e in absurd (cc g)
]

pub parts_are_of_commands : PartsAreOfCommands
parts_are_of_commands broken how ps e = absurd cc
parts_are_of_commands (read t) how ps e = elim (cases_Bool (is_command t)) [
  | inl h ↦ let a = of_row (row_named (word (words_of t) 0)) (words_of t) how ps (rw h at e) in (a.0, rw h (a.1))
  | inr h ↦ let g = rw h at e in absurd (cc g)
]

-- WHAT THEY KEEP

kept_by : (kind : Kind) (r : Row) (w0 : List ℕ) (rest : Words) → r.kind ≡ kind → Contains rows r → length w0 ≡ length r.name → All (Keeps (w0 ∷ rest)) (split_by kind r.name (w0 ∷ rest))
kept_by Ping r w0 rest k known same = all_none (Keeps (w0 ∷ rest))
kept_by Echo r w0 rest k known same = all_none (Keeps (w0 ∷ rest))
kept_by Quit r w0 rest k known same = all_none (Keeps (w0 ∷ rest))
kept_by One r w0 rest k known same = all_more (Keeps (w0 ∷ rest)) (w0 ∷ rest) [] (λ h. (h, omega arith)) (all_none (Keeps (w0 ∷ rest)))
kept_by SplitGet r w0 rest k known same =
    let (low, at, long) = get_row r known k in
    let names = three_names (codes "GET") w0 refl (omega (arith, same, long)) in
    all_made (Keeps (w0 ∷ rest)) (λ key. codes "GET" ∷ key ∷ []) rest (key_keeps w0 rest (codes "GET") names)
kept_by SplitSet r w0 rest k known same =
    let (low, at, long) = set_row r known k in
    let names = three_names (codes "SET") w0 refl (omega (arith, same, long)) in
    all_made (Keeps (w0 ∷ rest)) (λ p. codes "SET" ∷ p.0 ∷ p.1 ∷ []) (pairs rest) (λ k d l. pair_keeps w0 rest (codes "SET") (get_or (pairs rest) k d) names (pairs_in rest k d l))
kept_by SplitSum r w0 rest k known same =
    let names = same_names (str_to_ascii_uppercase r.name) w0 (length-map r.name to_ascii_uppercase ∙ sym same) in
    all_made (Keeps (w0 ∷ rest)) (λ key. str_to_ascii_uppercase r.name ∷ key ∷ []) rest (key_keeps w0 rest (str_to_ascii_uppercase r.name) names)

kept_row : (o : Option Row) (w0 : List ℕ) (rest : Words) → row_named w0 ≡ o → All (Keeps (w0 ∷ rest)) (commands_by_row o (w0 ∷ rest))
kept_row None w0 rest e = all_none (Keeps (w0 ∷ rest))
kept_row (Some r) w0 rest e =
    let (known, name) = found_stands_in_table r w0 e in
    let same : length w0 ≡ length r.name = sym (length-map w0 to_ascii_lowercase) ∙ ap length name in
    elim (cases_Bool (takes r.kind r.least (length (w0 ∷ rest)))) [
      | inl h ↦ rw h (kept_by r.kind r w0 rest refl known same)
      | inr h ↦ rw h (all_none (Keeps (w0 ∷ rest)))
    ]

kept_words : (ws : Words) → 0 < length ws → All (Keeps ws) (commands_by_row (row_named (word ws 0)) ws)
kept_words [] l = absurd (omega (arith, l))
kept_words (w0 ∷ rest) l = kept_row (row_named w0) w0 rest refl

of_tree : (t : Tree) (ws : Words) (commands : List Words) → t ≡ command_of ws → All (Keeps ws) commands → IsWithin MAX_CLIENT_MEMBERS max_depth t
    → All (λ words. IsWithin MAX_CLIENT_MEMBERS max_depth (command_of words) × (length (text (command_of words)) ≤ length (text t))) commands
of_tree t ws commands is all within k d l =
    let (keeps, short) = all k d l (subst (λ (z : Tree). IsWithin MAX_CLIENT_MEMBERS max_depth z) is within) in
    (keeps, subst (λ (z : Tree). length (text (command_of (get_or commands k d))) ≤ length (text z)) (sym is) short)

pub commands_keep_limits : CommandsKeepLimits
commands_keep_limits t within = elim (cases_Bool (is_command t)) [
  | inl h ↦ rw h (of_tree t (words_of t) (commands_by_row (row_named (word (words_of t) 0)) (words_of t)) (command_words t h) (kept_words (words_of t) (some_words t h)) within)
  | inr h ↦ rw h (all_none (λ words. IsWithin MAX_CLIENT_MEMBERS max_depth (command_of words) × (length (text (command_of words)) ≤ length (text t))))
]
