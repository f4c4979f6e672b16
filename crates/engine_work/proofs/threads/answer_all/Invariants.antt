use Rattle.std.proofs.Common.{◌≤◌, ◌+◌, vec_len, vec_capacity}
use Rattle.std.specs.List.{AllZip}
use Rattle.std.specs.Vec.Iter.{into_iter_len}
use Rattle.engine_work.specs.Works.{Answers}
use Rattle.engine_work.proofs.threads.answer_all.Given as goal

abbrev pub invariant-loop-work : goal.invariant-loop-work
invariant-loop-work g l =
    (goal.iterator-loop-work g).can_next l.work-iterator
    × (goal.iterator-loop-work g).is_finite l.work-iterator
    × (vec_len l.answers + into_iter_len l.work-iterator ≤ vec_capacity l.answers)
    × AllZip (Answers g.K.Work.may_answer) l.yielded l.answers.items
