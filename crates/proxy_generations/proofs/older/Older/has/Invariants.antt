use Rattle.std.proofs.Common.{◌≡◌, All, take}
use Rattle.proxy_generations.proofs.older.Older.has.Given as goal

abbrev pub invariant-loop-one : goal.invariant-loop-one
invariant-loop-one l = All (λ o. o.number ≡ l.number → ⊥) (take l.one-index l.one-items)
