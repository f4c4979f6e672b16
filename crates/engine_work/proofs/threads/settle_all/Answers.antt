use Rattle.std.proofs.Common.{rules}
use Rattle.std.proofs.lemmas.List.Elements.{All-tail}
use Rattle.std.specs.Vec.Iter.{into_iter_items}
use Rattle.engine_work.specs.Works.{IsCallable}
use Rattle.std.proofs.lemmas.Slice.Zip.{all_zipped_more}
use Rattle.engine_work.proofs.threads.settle_all.Goals as goal

pub loop-work-preserved : goal.loop-work-preserved
loop-work-preserved g c = let (_, _, _, _, callable, settled) = c.loop-work.invariant in (
  search rules,
  search rules,
  search rules,
  search rules,
  All-tail (IsCallable (goal.F-pre g)) c.in-Some.work (into_iter_items c.next.new.self) (rw c.in-Some.ensures.steps.0 at callable),
  rw c.push_reserved.ensures.items (all_zipped_more _ c.loop-work.yielded c.loop-work.settled.items c.in-Some.work c.settle.result settled c.settle.ensures),
)
