use Rattle.std.proofs.Common.{◌≡◌, true, false}
use Rattle.proxy_core.proofs.events.answered.counted.Goals as goal

pub returns-clause-state : goal.returns-clause-state
returns-clause-state c = c.in-Ok.ensures.state

pub returns-clause-trip : goal.returns-clause-trip
returns-clause-trip c = c.in-Ok.ensures.trip

pub unreachable-requires : goal.unreachable-requires
unreachable-requires c = let clash : false ≡ true = rw c.in-Err.is at c.result.ensures.succeeds in absurd cc
