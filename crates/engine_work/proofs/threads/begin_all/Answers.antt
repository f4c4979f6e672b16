use Rattle.std.proofs.Common.{rules, ◌∷◌, []}
use Rattle.std.proofs.lemmas.List.Elements.{All-tail, All-append, All-cons, All-nil}
use Rattle.std.specs.Vec.Iter.{into_iter_items}
use Rattle.engine_work.specs.Works.{IsCallable}
use Rattle.std.proofs.lemmas.Slice.Zip.{all_zipped_more}
use Rattle.engine_work.proofs.threads.begin_all.Goals as goal

pub loop-work-preserved : goal.loop-work-preserved
loop-work-preserved g c = let (_, _, _, _, fresh, callable, begun) = c.loop-work.invariant in (
  search rules,
  search rules,
  search rules,
  search rules,
  All-tail g.K.Work.is_fresh c.in-Some.work (into_iter_items c.next.new.self) (rw c.in-Some.ensures.steps.0 at fresh),
  rw c.push_reserved.ensures.items (All-append (IsCallable (goal.F-pre g)) c.loop-work.begun.items (c.begin.result ∷ []) callable (All-cons (IsCallable (goal.F-pre g)) c.begin.result [] c.begin.ensures.callable (All-nil (IsCallable (goal.F-pre g))))),
  rw c.push_reserved.ensures.items (all_zipped_more _ c.loop-work.yielded c.loop-work.begun.items c.in-Some.work c.begin.result begun (rw c.of-of.ensures at c.begin.ensures.begun)),
)
