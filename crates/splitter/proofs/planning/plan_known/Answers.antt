use Rattle.std.proofs.Common.{◌∷◌, [], map, drop, length, ap, ◌∙◌}
use Rattle.std.proofs.lemmas.Result.{IfOk-weaker}
use Rattle.resp_core.specs.Command.{payload_of}
use Rattle.command_table.specs.Entry.{row_of}
use Rattle.splitter.specs.Plan.{parts}
use Rattle.splitter.specs.Planned.{planned_in}
use Rattle.splitter.specs.Split.{part_at}
use Rattle.splitter.proofs.RowLemmas.{get_row, set_row, sum_row}
use Rattle.splitter.proofs.PlanLemmas.{one_inside, echo_inside, one_is, get_is, set_is, sum_is}
use Rattle.splitter.proofs.planning.plan_known.Goals as goal
use Rattle.splitter.proofs.planning.plan_known.Goals.{in-SplitGet+in_ok-key_parts-in-SplitGet, in-SplitSet+in_ok-pair_parts-in-SplitSet, in-SplitSum+in_ok-upper_name-in-SplitSum+in_ok-key_parts-in-SplitSum}

pub word-requires-clause-inside : goal.word-requires-clause-inside
word-requires-clause-inside c = echo_inside (row_of c.args.entry) (length c.args.command.now.words.now) c.requires.takes c.in-Echo.is c.requires.known

pub whole_part-requires-clause-inside : goal.whole_part-requires-clause-inside
whole_part-requires-clause-inside c = one_inside (row_of c.args.entry) (length c.args.command.now.words.now) c.requires.takes c.in-One.is c.requires.known

pub returns-in-One-clause-plan : goal.returns-in-One-clause-plan
returns-in-One-clause-plan c =
    IfOk-weaker c.whole_part.result _ _ (λ p is. one_is (row_of c.args.entry) (map payload_of c.args.command.now.words.now) (planned_in p) c.in-One.is is) c.whole_part.ensures.parts

pub returns-clause-plan : goal.returns-clause-plan
returns-clause-plan c =
    let r = row_of c.args.entry in
    let words = map payload_of c.args.command.now.words.now in
    elim c.match-entry.branch [
      | in-SplitGet+in_ok-key_parts-in-SplitGet w ↦ ap (λ z. parts z.0 z.1) w.how-is ∙ get_is r words _ w.in-SplitGet.is (get_row r c.requires.known w.in-SplitGet.is).1
          (w.in_ok-key_parts-in-SplitGet.ensures.parts ∙ ap (λ z. map (λ key. part_at 1 (z ∷ key ∷ [])) (drop 1 words)) w.from_static-in-SplitGet.ensures)
      | in-SplitSet+in_ok-pair_parts-in-SplitSet w ↦ ap (λ z. parts z.0 z.1) w.how-is ∙ set_is r words _ w.in-SplitSet.is (set_row r c.requires.known w.in-SplitSet.is).1 w.in_ok-pair_parts-in-SplitSet.ensures.parts
      | in-SplitSum+in_ok-upper_name-in-SplitSum+in_ok-key_parts-in-SplitSum w ↦ ap (λ z. parts z.0 z.1) w.how-is ∙ sum_is r words _ w.in-SplitSum.is (sum_row r c.requires.known w.in-SplitSum.is).1
          (w.in_ok-key_parts-in-SplitSum.ensures.parts ∙ ap (λ z. map (λ key. part_at 1 (z ∷ key ∷ [])) (drop 1 words)) w.in_ok-upper_name-in-SplitSum.ensures.name)
    ]
