-- What a history determines of its connections, and how an event changes it.
use Rattle.std.specs.Prelude.{◌≡◌, ℕ, ◌+◌, ◌-◌, ◌^◌, ◌<◌, length, Bool, true, false, ◌||◌, if◌then◌else◌, Option, Some, None, List, [], ◌∷◌, ◌++◌, map, drop, slice_get}
use Rattle.std.specs.Option.{option_map, option_and_then}
use Rattle.std.specs.List.{range_with_len}
use Rattle.list_lemmas.specs.Lists.{changed_at}
use Rattle.resp_core.specs.Tree.{Tree}
use Rattle.splitter.specs.Plan.{Plan, here, leave, parts}
use Rattle.splitter.specs.declared.plans.Join.TheVariants.{Same}
use Rattle.splitter.specs.declared.request.Request.{Request}
use Rattle.upstream_pipe.specs.declared.part.Owner.{Owner}
use Rattle.reply_queue.specs.Command.{AwaitedCommand}
use Rattle.reply_queue.specs.Queue.{QueueState, IsOpen, front_reply, with_part, without_front}
use Rattle.proxy_history.specs.Setting.{max_unwritten}
use Rattle.proxy_history.specs.History.{openings, handed_count, requests, is_closed, is_finishing, plan_for}
use Rattle.proxy_history.specs.Part.{Part, Past}
use Rattle.proxy_history.specs.Value.{value_of}
use Rattle.proxy_history.specs.Outcome.{parts_of}
use Rattle.proxy_core.specs.declared.state.connection.Connection.{Connection}

-- OF A HISTORY

-- a command, with the values that its parts have; what the proxy answers itself is one value that is there
abbrev pub awaited_by : Past → ℕ → ℕ → Plan → AwaitedCommand
awaited_by x c i (here name value) = record { how = Same; values = Some value ∷ [] }
awaited_by x c i (leave name value) = record { how = Same; values = Some value ∷ [] }
awaited_by x c i (parts how list) = record { how = how; values = map (value_of x) (parts_of c i x) }

-- the commands of these requests, the first of which has this index
abbrev pub awaited_from : Past → ℕ → ℕ → List Request → List AwaitedCommand
awaited_from x c i [] = []
awaited_from x c i (r ∷ rs) = awaited_by x c i (plan_for r) ∷ awaited_from x c (i + 1) rs

-- the commands of a connection that are not handed out
abbrev pub queue_of : Past → ℕ → QueueState
queue_of x c =
    let n = handed_count c x.steps in record { popped = n; commands = drop n (awaited_from x c 0 (requests c x.steps)) }

-- what is kept of a connection, by its past
abbrev pub connection_of : Past → ℕ → Option Connection
connection_of x c = if is_closed c x.steps then None else Some (record { queue = queue_of x c; is_finishing = is_finishing c x.steps })

-- the connections by their numbers, none in the place of one that is closed
abbrev pub connections_of : Past → List (Option Connection)
connections_of x = map (connection_of x) (range_with_len 0 (openings x.steps))

-- CHANGES

-- a connection to which nothing has happened
abbrev pub fresh_connection : Connection
fresh_connection = record { queue = record { popped = 0; commands = [] }; is_finishing = false }

-- the connection of this number changed, if it is open
abbrev pub with_connection : (Connection → Connection) → ℕ → List (Option Connection) → List (Option Connection)
with_connection change c connections = changed_at (option_map change) c connections

-- a connection that takes nothing more
abbrev pub finished_connection : Connection → Connection
finished_connection k = record k { is_finishing = true }

-- a command more, behind the others
abbrev pub connection_with_command : AwaitedCommand → Bool → Connection → Connection
connection_with_command command is_last k = record {
  queue = record { popped = k.queue.popped; commands = k.queue.commands ++ command ∷ [] };
  is_finishing = k.is_finishing || is_last;
}

-- the command of a plan as it arrives: its parts have the values that they got at once
abbrev pub arrived_command : Plan → List Part → AwaitedCommand
arrived_command (here name value) placed = record { how = Same; values = Some value ∷ [] }
arrived_command (leave name value) placed = record { how = Same; values = Some value ∷ [] }
arrived_command (parts how list) placed = record { how = how; values = map (λ (p : Part). p.local) placed }

-- a connection whose oldest command is handed out
abbrev pub connection_without_front : Connection → Connection
connection_without_front k = record k { queue = without_front k.queue }

-- the connections without the one that closes
abbrev pub connections_without : ℕ → List (Option Connection) → List (Option Connection)
connections_without c connections = changed_at (λ k. None) c connections

-- a connection with a value in a part's place
abbrev pub with_answer : Owner → Tree → Connection → Connection
with_answer o v k = record k { queue = with_part o.command o.part v k.queue }

-- the part of this owner got a value
abbrev pub answered_part : Owner → Tree → List (Option Connection) → List (Option Connection)
answered_part o v connections = with_connection (with_answer o v) o.conn connections

-- each of these owners' parts got the value
abbrev pub answered_parts : List Owner → Tree → List (Option Connection) → List (Option Connection)
answered_parts [] v connections = connections
answered_parts (o ∷ os) v connections = answered_parts os v (answered_part o v connections)

-- the owner's connection is open, and its part has no value yet
pub record IsAwaited (o : Owner) (connections : List (Option Connection)) : Type 0 where
  pub connection : Connection
  pub is_open : slice_get connections o.conn ≡ Some (Some connection)
  pub is_awaited : IsOpen connection.queue o.command o.part

-- so it is where the connection is open
abbrev pub IsAwaitedIn : Option Connection → Owner → Type 0
IsAwaitedIn None o = Unit {0}
IsAwaitedIn (Some k) o = IsOpen k.queue o.command o.part

-- each of these owners' parts has no value yet when its turn comes
abbrev pub AreAwaited : List Owner → Tree → List (Option Connection) → Type 0
AreAwaited [] v connections = Unit {0}
AreAwaited (o ∷ os) v connections = IsAwaited o connections × AreAwaited os v (answered_part o v connections)

-- OF ONE

-- the connection of this number, if it is open
abbrev pub connection_at : ℕ → List (Option Connection) → Option Connection
connection_at c connections = option_and_then (λ k. k) (slice_get connections c)

-- whether a connection that is kept takes nothing more
abbrev pub is_finishing_in : Option Connection → Bool
is_finishing_in None = false
is_finishing_in (Some k) = k.is_finishing

-- how many commands are left of a connection that is kept
abbrev pub left_in : Option Connection → ℕ
left_in None = 0
left_in (Some k) = length k.queue.commands

-- the reply to the oldest command that isn't handed out
abbrev pub reply_in : Option Connection → Option Tree
reply_in None = None
reply_in (Some k) = front_reply k.queue.commands

-- there is a connection, which may take one more command
pub record MayAccept (k : Option Connection) : Type 0 where
  pub connection : Connection
  pub is_open : k ≡ Some connection
  pub left : length connection.queue.commands < max_unwritten
  pub index : connection.queue.popped + length connection.queue.commands < 2 ^ 64 - 1

-- the index of its next command
abbrev pub next_index : Option Connection → ℕ
next_index None = 0
next_index (Some k) = k.queue.popped + length k.queue.commands

-- THE TABLE

-- the connections by their numbers, none in the place of one that is closed, and how many were closed
pub record ConnectionTable : Type 0 where
  pub numbered : List (Option Connection)
  pub closed : ℕ
