use Rattle.std.proofs.Common.{◌≡◌, ◌≤◌, ◌+◌, vec_len, vec_capacity, All}
use Rattle.std.specs.List.{AllZip}
use Rattle.std.specs.Vec.Iter.{into_iter_items, into_iter_len}
use Rattle.engine_work.specs.Works.{IsBegun, IsCallable}
use Rattle.engine_work.proofs.threads.begin_all.Given as goal

abbrev pub invariant-loop-work : goal.invariant-loop-work
invariant-loop-work g l =
    (goal.iterator-loop-work g).can_next l.work-iterator
    × (goal.iterator-loop-work g).is_finite l.work-iterator
    × (vec_len l.begun + into_iter_len l.work-iterator ≡ vec_len l.fn.works)
    × (vec_len l.begun + into_iter_len l.work-iterator ≤ vec_capacity l.begun)
    × All g.K.Work.is_fresh (into_iter_items l.work-iterator)
    × All (IsCallable (goal.F-pre g)) l.begun.items
    × AllZip (IsBegun (goal.F-post g) g.K.Work.may_answer) l.yielded l.begun.items
