-- Which generations sockets may come to.
use Rattle.std.specs.Prelude.{⊤}
use Rattle.proxy_generations.specs.declared.phase.Phase.{Phase}
use Rattle.proxy_generations.specs.declared.phase.Phase.TheVariants.{Unopened, Serving, Draining, GivingUp, Stopped}

-- sockets may still come to it
abbrev pub MayAccept : Phase → Type 0
MayAccept Unopened = ⊤
MayAccept Serving = ⊤
MayAccept Draining = ⊥
MayAccept GivingUp = ⊥
MayAccept Stopped = ⊥
