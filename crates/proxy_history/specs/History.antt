-- A history: its steps, the newest first. What stands behind a step is what came before it.
use Rattle.std.specs.Prelude.{ℕ, Bool, true, false, List, [], ◌∷◌, ◌++◌, ◌==◌, ◌+◌, ◌||◌, ◌&&◌, not, nat_lt, if◌then◌else◌}
use Rattle.journal_core.specs.declared.step.Step.{Step as StepOf}
use Rattle.splitter.specs.declared.request.Request.{Request}
use Rattle.splitter.specs.Request.{request_of}
use Rattle.splitter.specs.Plan.{Plan, plan_of, is_last}
use Rattle.proxy_history.specs.declared.answer.Answer.{Answer}
use Rattle.proxy_history.specs.declared.event.Event.{Event}
use Rattle.proxy_history.specs.declared.event.Event.TheVariants.{Opened, Arrived, Finished, Failed, Handed, Closed}

-- who made a turn, of which event, and what was answered
abbrev pub Step : Type 0
Step = StepOf Event Answer

-- the steps so far, the newest first
abbrev pub History : Type 0
History = List Step

-- how many steps of a kind there are
abbrev pub times : (Event → Bool) → History → ℕ
times is [] = 0
times is (s ∷ before) = if is s.event then times is before + 1 else times is before

-- whether there is one
abbrev pub has : (Event → Bool) → History → Bool
has is [] = false
has is (s ∷ before) = is s.event || has is before

-- whether an event opens a connection
abbrev pub is_opening : Event → Bool
is_opening Opened = true
is_opening _ = false

-- whether an event is a request of the connection
abbrev pub is_arrival : ℕ → Event → Bool
is_arrival c (Arrived conn request) = conn == c
is_arrival c _ = false

-- whether an event hands out a reply to the connection
abbrev pub is_handing : ℕ → Event → Bool
is_handing c (Handed conn) = conn == c
is_handing c _ = false

-- whether an event closes the connection
abbrev pub is_closing : ℕ → Event → Bool
is_closing c (Closed conn) = conn == c
is_closing c _ = false

-- whether an event closes any connection
abbrev pub is_any_closing : Event → Bool
is_any_closing (Closed conn) = true
is_any_closing _ = false

-- whether an event is a fault of the host
abbrev pub is_fault : ℕ → Event → Bool
is_fault h (Failed host epoch kind t) = host == h
is_fault h _ = false

-- the plan of a request
abbrev pub plan_for : Request → Plan
plan_for request = plan_of (request_of request)

-- whether an event ends the connection's input
abbrev pub finishes : ℕ → Event → Bool
finishes c (Finished conn) = conn == c
finishes c (Arrived conn request) = (conn == c) && is_last (plan_for request)
finishes c _ = false

-- how many connections were opened
abbrev pub openings : History → ℕ
openings H = times is_opening H

-- how many commands of a connection arrived, and how many replies were handed out
abbrev pub accepted_count : ℕ → History → ℕ
accepted_count c H = times (is_arrival c) H

-- how many replies were handed out to the connection
abbrev pub handed_count : ℕ → History → ℕ
handed_count c H = times (is_handing c) H

-- the epoch of a host: how many faults it has had
abbrev pub epoch : ℕ → History → ℕ
epoch h H = times (is_fault h) H

-- whether the connection was closed
abbrev pub is_closed : ℕ → History → Bool
is_closed c H = has (is_closing c) H

-- whether the connection was opened and not closed
abbrev pub is_open : ℕ → History → Bool
is_open c H = nat_lt c (openings H) && not (is_closed c H)

-- whether the connection takes nothing more
abbrev pub is_finishing : ℕ → History → Bool
is_finishing c H = has (finishes c) H

-- the requests of a connection, in their order
abbrev pub request_by : ℕ → Event → List Request
request_by c (Arrived conn request) = if conn == c then request ∷ [] else []
request_by c _ = []

-- what was asked on the connection, the oldest first
abbrev pub requests : ℕ → History → List Request
requests c [] = []
requests c (s ∷ before) = requests c before ++ request_by c s.event
