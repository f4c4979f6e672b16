-- The places so far are those of the parts so far, and for each host it is counted how many wait there.
use Rattle.std.proofs.Common.{◌≡◌, ◌+◌, ◌≤◌, ℕ, length, vec_capacity}
use Rattle.std.specs.Vec.Iter.{into_iter_items}
use Rattle.proxy_history.specs.Part.{Past}
use Rattle.proxy_core.specs.Places.{AreCounted}
use Rattle.proxy_core.specs.Machine.{setting_in, memory_in}
use Rattle.proxy_core.specs.Arrivals.{Tells}
use Rattle.proxy_core.proofs.arrivals.PlaceLemmas.{AreSoFar}
use Rattle.proxy_core.proofs.machine.Machine.place_all.Given as goal

abbrev pub invariant-loop-plan : goal.invariant-loop-plan
invariant-loop-plan l = record {
  left : length l.placed.items + length (into_iter_items l.plan-iterator) ≡ length l.fn.list;
  places : length l.fn.list ≤ vec_capacity l.placed;
  counted : AreCounted (memory_in l.self).pipelines l.counts l.placed.items;
  placed : (x : Past) (conn command : ℕ) → Tells (setting_in l.self) (memory_in l.self) conn x
      → AreSoFar (setting_in l.self) x conn command l.fn.list l.placed.items (into_iter_items l.plan-iterator);
}
