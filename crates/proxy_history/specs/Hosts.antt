-- The hosts that events name.
use Rattle.std.specs.Prelude.{ℕ, ◌<◌, List, All}
use Rattle.proxy_history.specs.History.{Step}
use Rattle.proxy_history.specs.declared.event.Event.{Event}
use Rattle.proxy_history.specs.declared.event.Event.TheVariants.{Opened, Arrived, Finished, Taken, Answered, Failed, Swept, Handed, Closed}

-- the host that answered or failed is one of so many
abbrev pub HasHost : ℕ → Event → Type 0
HasHost n Opened = Unit {0}
HasHost n (Arrived conn request) = Unit {0}
HasHost n (Finished conn) = Unit {0}
HasHost n (Taken host) = Unit {0}
HasHost n (Answered host epoch value t) = host < n
HasHost n (Failed host epoch kind t) = host < n
HasHost n (Swept t) = Unit {0}
HasHost n (Handed conn) = Unit {0}
HasHost n (Closed conn) = Unit {0}

-- so it is in each of the steps
abbrev pub HaveHosts : ℕ → List Step → Type 0
HaveHosts n steps = All (λ s. HasHost n s.event) steps
