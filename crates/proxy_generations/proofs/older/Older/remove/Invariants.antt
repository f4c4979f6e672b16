use Rattle.std.proofs.Common.{◌≡◌, ◌==◌, not, filter, take}
use Rattle.proxy_generations.proofs.older.Older.remove.Given as goal

abbrev pub invariant-loop-one : goal.invariant-loop-one
invariant-loop-one l = l.after.items ≡ filter (λ o. not (l.number == o.number)) (take l.one-index l.one-items)
