-- What goes out.
use Rattle.std.specs.Prelude.{ℕ, List, [], ◌∷◌, ◌++◌, ◌==◌, if◌then◌else◌}
use Rattle.proxy_history.specs.History.{History}
use Rattle.proxy_history.specs.declared.event.Event.{Event}
use Rattle.proxy_history.specs.declared.event.Event.TheVariants.{Taken, Handed}
use Rattle.proxy_history.specs.declared.answer.Answer.{Answer}
use Rattle.proxy_history.specs.declared.answer.Answer.TheVariants as answer

-- all that was handed out to a connection
abbrev pub handed_text : ℕ → Event → Answer → List ℕ
handed_text c (Handed conn) (answer.Bytes t) = if conn == c then t else []
handed_text c _ _ = []

-- the bytes that were handed out to a connection
abbrev pub transcript : ℕ → History → List ℕ
transcript c [] = []
transcript c (s ∷ before) = transcript c before ++ handed_text c s.event s.answer

-- all that was sent to a host in an epoch
abbrev pub sent_text : ℕ → ℕ → Event → Answer → List ℕ
sent_text h e (Taken host) (answer.Sent ep place t) = if host == h then (if ep == e then t else []) else []
sent_text h e _ _ = []

-- the bytes that were sent to a host in an epoch
abbrev pub upstream : ℕ → ℕ → History → List ℕ
upstream h e [] = []
upstream h e (s ∷ before) = upstream h e before ++ sent_text h e s.event s.answer
