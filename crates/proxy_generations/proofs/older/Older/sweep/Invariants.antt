use Rattle.std.proofs.Common.{◌≡◌, map, take}
use Rattle.proxy_generations.specs.Older.{swept_at}
use Rattle.proxy_generations.proofs.older.Older.sweep.Given as goal

abbrev pub invariant-loop-one : goal.invariant-loop-one
invariant-loop-one l = l.after.items ≡ map (swept_at l.number l.now) (take l.one-index l.one-items)
