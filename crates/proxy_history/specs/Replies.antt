-- The replies that came.
use Rattle.std.specs.Prelude.{ℕ, List, [], ◌∷◌, ◌++◌, ◌==◌, ◌&&◌, if◌then◌else◌}
use Rattle.resp_core.specs.Tree.{Tree}
use Rattle.resp_core.specs.Value.{tree_of}
use Rattle.proxy_history.specs.History.{History}
use Rattle.proxy_history.specs.declared.event.Event.{Event}
use Rattle.proxy_history.specs.declared.event.Event.TheVariants.{Answered}

-- the replies of a host that came in an epoch, in their order
abbrev pub reply_by : ℕ → ℕ → Event → List Tree
reply_by h e (Answered host ep value t) = if (host == h) && (ep == e) then tree_of value ∷ [] else []
reply_by h e _ = []

-- the replies that came from a host in an epoch, the oldest first
abbrev pub replies_from : ℕ → ℕ → History → List Tree
replies_from h e [] = []
replies_from h e (s ∷ before) = replies_from h e before ++ reply_by h e s.event
