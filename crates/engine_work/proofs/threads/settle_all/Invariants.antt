use Rattle.std.proofs.Common.{◌≡◌, ◌≤◌, ◌+◌, vec_len, vec_capacity, All}
use Rattle.std.specs.List.{AllZip}
use Rattle.std.specs.Vec.Iter.{into_iter_items, into_iter_len}
use Rattle.engine_work.specs.Works.{IsCallable, Settles}
use Rattle.engine_work.proofs.threads.settle_all.Given as goal

abbrev pub invariant-loop-work : goal.invariant-loop-work
invariant-loop-work g l =
    (goal.iterator-loop-work g).can_next l.work-iterator
    × (goal.iterator-loop-work g).is_finite l.work-iterator
    × (vec_len l.settled + into_iter_len l.work-iterator ≡ vec_len l.fn.begun)
    × (vec_len l.settled + into_iter_len l.work-iterator ≤ vec_capacity l.settled)
    × All (IsCallable (goal.F-pre g)) (into_iter_items l.work-iterator)
    × AllZip (Settles (goal.F-post g) g.K.Work.may_answer) l.yielded l.settled.items
