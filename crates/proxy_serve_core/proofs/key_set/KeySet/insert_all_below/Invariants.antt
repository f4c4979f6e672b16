use Rattle.std.proofs.Common.{◌≡◌}
use Rattle.proxy_serve_core.specs.KeySet.{AddsKeysBelow, capacity_of}
use Rattle.proxy_serve_core.proofs.key_set.KeySet.insert_all_below.Given as goal

abbrev pub invariant-loop-key : goal.invariant-loop-key
invariant-loop-key l = AddsKeysBelow l.key l.fn.self l.self × (capacity_of l.self ≡ capacity_of l.fn.self)
