-- What a worker does, by the phases of its generation that it saw: the newest comes first.
use Rattle.std.specs.Prelude.{◌⊎◌, ◌↔◌, ⊤, List, [], ◌∷◌, IsTrue}
use Rattle.proxy_generations.specs.Accepting.{MayAccept}
use Rattle.proxy_generations.specs.declared.mode.Mode.{Mode}
use Rattle.proxy_generations.specs.declared.phase.Phase.{Phase}
use Rattle.proxy_generations.specs.declared.phase.Phase.TheVariants.{Unopened, Serving, Draining, GivingUp, Stopped}

-- parts that wait for hosts are given up in this phase
abbrev pub GivesUp : Phase → Type 0
GivesUp Unopened = ⊥
GivesUp Serving = ⊥
GivesUp Draining = ⊥
GivesUp GivingUp = ⊤
GivesUp Stopped = ⊤

-- in one of these phases no socket may come
abbrev pub OneIsClosed : List Phase → Type 0
OneIsClosed [] = ⊥
OneIsClosed (phase ∷ phases) = (¬ MayAccept phase) ⊎ OneIsClosed phases

-- parts are given up in the newest of these phases
abbrev pub NewestGivesUp : List Phase → Type 0
NewestGivesUp [] = ⊥
NewestGivesUp (phase ∷ phases) = GivesUp phase

-- From the first phase on in which no socket may come a worker takes in nothing, whatever phase comes later. It gives parts up
-- only as long as the phase asks for it.
pub record IsMode (mode : Mode) (phases : List Phase) : Type 0 where
  pub drains : IsTrue mode.drains ↔ OneIsClosed phases
  pub gives_up : IsTrue mode.gives_up ↔ NewestGivesUp phases
