-- Whose step a step is: a pass's, a connection's or a host's.
use Rattle.std.specs.Prelude.{ℕ, Bool, false, ◌==◌, ◌||◌, filter}
use Rattle.proxy_history.specs.History.{History, Step}
use Rattle.proxy_history.specs.declared.event.Event.{Event}
use Rattle.proxy_history.specs.declared.event.Event.TheVariants.{Opened, Arrived, Finished, Taken, Answered, Failed, Handed, Closed}
use Rattle.proxy_history.specs.declared.answer.Answer.{Answer}
use Rattle.proxy_history.specs.declared.answer.Answer.TheVariants as answer

-- an event of a connection: a request of it arrives, its input ends, a reply is handed out to it, or it is closed
abbrev pub is_of_connection : ℕ → Event → Bool
is_of_connection c (Arrived conn request) = conn == c
is_of_connection c (Finished conn) = conn == c
is_of_connection c (Handed conn) = conn == c
is_of_connection c (Closed conn) = conn == c
is_of_connection c _ = false

-- the opening that gave the connection its number
abbrev pub is_opening_of : ℕ → Event → Answer → Bool
is_opening_of c Opened (answer.Opened conn) = conn == c
is_opening_of c _ _ = false

-- an event of a host: a part is taken for it, it answers, or its link fails
abbrev pub is_of_host : ℕ → Event → Bool
is_of_host h (Taken host) = host == h
is_of_host h (Answered host epoch value t) = host == h
is_of_host h (Failed host epoch kind t) = host == h
is_of_host h _ = false

-- a step of the connection: its opening, or an event of it
abbrev pub is_connection_step : ℕ → Event → Answer → Bool
is_connection_step c event answer = is_opening_of c event answer || is_of_connection c event

-- the steps of a connection
abbrev pub connection_steps : ℕ → History → History
connection_steps c H = filter (λ (s : Step). is_connection_step c s.event s.answer) H

-- the steps of a host
abbrev pub host_steps : ℕ → History → History
host_steps h H = filter (λ (s : Step). is_of_host h s.event) H

-- the steps of a pass
abbrev pub pass_steps : ℕ → History → History
pass_steps pass H = filter (λ (s : Step). s.pass == pass) H
