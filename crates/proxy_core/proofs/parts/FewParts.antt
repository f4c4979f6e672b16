-- A command has no more parts than its request has bytes.
use Rattle.std.proofs.Common.{◌≡◌, ◌+◌, ◌≤◌, List, length, map, decimal, Option, Some, None, ap, inl, inr, arith}
use Rattle.std.proofs.lemmas.Bool.{cases_Bool}
use Rattle.std.proofs.lemmas.List.{length-append, length-map}
use Rattle.resp_core.specs.Tree.{Tree, Trees, simple, fault, whole, bulk, null_bulk, list, null_list, no_trees, tree, members}
use Rattle.resp_core.specs.Text.{text, texts, line}
use Rattle.resp_core.specs.Value.{tree_of}
use Rattle.resp_core.specs.Command.{command_of, is_command, words_of, word, payload_of}
use Rattle.command_table.specs.Table.{Row, row_named}
use Rattle.command_table.specs.declared.Kind.{Kind}
use Rattle.command_table.specs.declared.Kind.TheVariants.{Ping, Echo, Quit, One, SplitGet, SplitSet, SplitSum}
use Rattle.splitter.specs.declared.plans.Join.{Join}
use Rattle.splitter.specs.declared.plans.PartPlan.{PartPlan}
use Rattle.splitter.specs.declared.request.Request.{Request}
use Rattle.splitter.specs.declared.request.Request.TheVariants as requests
use Rattle.splitter.specs.Split.{Words, split, part_at}
use Rattle.splitter.specs.Plan.{parts, plan_by, plan_by_row, plan_of, takes}
use Rattle.splitter.specs.Request.{read}
use Rattle.splitter.proofs.CallerLemmas.{length-split_by}
use Rattle.proxy_history.specs.History.{plan_for}
use Rattle.proxy_history.specs.Payload.{length_of_request}

-- A VALUE HAS FEWER MEMBERS THAN BYTES

text_some : (t : Tree) → 1 ≤ length (text t)
text_some (simple s) = omega arith
text_some (fault s) = omega arith
text_some (whole n) = omega arith
text_some (bulk s) = omega arith
text_some null_bulk = omega arith
text_some (list ts) = omega arith
text_some null_list = omega arith

few_members : (ts : Trees) → length (members ts) ≤ length (texts ts)
few_members no_trees = omega arith
few_members (tree t ts) = omega (arith, few_members ts, text_some t, length-append (text t) (texts ts))

few_words : (t : Tree) → length (words_of t) + 1 ≤ length (text t)
few_words (simple s) = omega (arith, text_some (simple s))
few_words (fault s) = omega (arith, text_some (fault s))
few_words (whole n) = omega (arith, text_some (whole n))
few_words (bulk s) = omega (arith, text_some (bulk s))
few_words null_bulk = omega (arith, text_some null_bulk)
few_words null_list = omega (arith, text_some null_list)
few_words (list ts) =
    omega (arith, few_members ts, length-map (members ts) payload_of, length-append (line 42 (decimal (length (members ts)))) (texts ts))

-- AND A COMMAND NO MORE PARTS THAN ONE PAST ITS WORDS

few_by_parts : (r : Row) (words : Words) (plans : List PartPlan) → map (part_at r.key_at) (split r words) ≡ plans → length plans ≤ length words + 1
few_by_parts r words plans e = omega (arith, ap length e, length-map (split r words) (part_at r.key_at), length-split_by r.kind r.name words)

few_by : (kind : Kind) (r : Row) (words : Words) (how : Join) (plans : List PartPlan) → plan_by kind r words ≡ parts how plans → length plans ≤ length words + 1
few_by Ping r words how plans e = absurd (cc e)
few_by Echo r words how plans e = absurd (cc e)
few_by Quit r words how plans e = absurd (cc e)
few_by One r words how plans e = few_by_parts r words plans cc
few_by SplitGet r words how plans e = few_by_parts r words plans cc
few_by SplitSet r words how plans e = few_by_parts r words plans cc
few_by SplitSum r words how plans e = few_by_parts r words plans cc

few_by_row : (row : Option Row) (words : Words) (how : Join) (plans : List PartPlan) → plan_by_row row words ≡ parts how plans → length plans ≤ length words + 1
few_by_row None words how plans e = absurd (cc e)
few_by_row (Some r) words how plans e = elim (cases_Bool (takes r.kind r.least (length words))) [
  | inl t ↦ few_by r.kind r words how plans (rw t at e)
  | inr f ↦ let g = rw f at e in absurd (cc g)
]

few_of : (t : Tree) (how : Join) (plans : List PartPlan) → plan_of (read t) ≡ parts how plans → length plans ≤ length (text t)
few_of t how plans e = elim (cases_Bool (is_command t)) [
  | inl is ↦
      let g = rw is at e in
      omega (arith, few_words t, few_by_row (row_named (word (words_of t) 0)) (words_of t) how plans g)
  | inr is_none ↦ let g = rw is_none at e in absurd (cc g)
]

pub few_parts : (request : Request) (how : Join) (plans : List PartPlan) → plan_for request ≡ parts how plans → length plans ≤ length_of_request request
few_parts requests.Broken how plans e = absurd (cc e)
few_parts (requests.Read v) how plans e = few_of (tree_of v) how plans e
few_parts (requests.Spelled words) how plans e = few_of (command_of words) how plans e
