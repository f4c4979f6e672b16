-- Up to here each part is counted.
use Rattle.std.proofs.Common.{◌≡◌, ◌+◌, count_by, drop}
use Rattle.proxy_core.specs.Places.{is_without_host, is_too_many}
use Rattle.proxy_core.specs.declared.state.place.Placed.{Placed}
use Rattle.proxy_core.proofs.state.place.Accepted.counted.Given as goal

abbrev pub invariant-loop-part : goal.invariant-loop-part
invariant-loop-part l = record {
  no_host : l.no_host + count_by (λ (p : Placed). is_without_host p.place) (drop l.part-index l.fn.placed)
      ≡ count_by (λ (p : Placed). is_without_host p.place) l.fn.placed;
  busy : l.busy + count_by (λ (p : Placed). is_too_many p.place) (drop l.part-index l.fn.placed)
      ≡ count_by (λ (p : Placed). is_too_many p.place) l.fn.placed;
}
