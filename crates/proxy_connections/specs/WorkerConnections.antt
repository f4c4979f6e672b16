-- What a worker keeps of all its clients and hosts, and what each call may change of them.
use Rattle.std.specs.Prelude.{◌≡◌, ◌≢◌, ⊤, true, ◌<◌, ◌≤◌, ◌++◌, ℕ, List, [], Some, None, length, map, slice_get, slice_index_or}
use Rattle.std.specs.List.{All}
use Rattle.slab.specs.Slab.{Slab, Updates, SameValues, get}
use Rattle.proxy_history.specs.History.{History}
use Rattle.proxy_history.specs.OwnSteps.{connection_steps}
use Rattle.proxy_engines.specs.HostStep.{ends_of}
use Rattle.proxy_engines.specs.Keeps.{KeepsSocket, no_logs}
use Rattle.proxy_engines.specs.Logs.{CarriesHostLogs}
use Rattle.proxy_engines.specs.Turns.{own_steps}
use Rattle.proxy_engines.specs.Client.{Client as Engine}
use Rattle.ticket_gate.specs.Turns.{SeatedFacts}
use Rattle.proxy_history.specs.declared.answer.Answer.{Answer}
use Rattle.proxy_history.specs.declared.event.Event.{Event}
use Rattle.proxy_core.specs.Recorded.{Origin}
use Rattle.proxy_connections.specs.Sockets.{CarriesAll, KeepsHost}
use Rattle.proxy_config.specs.declared.config.Host.{Host}
use Rattle.proxy_notices.specs.Places.{IsOf, hosts_of}
use Rattle.proxy_notices.specs.declared.place.Place.{Place}
use Rattle.proxy_connections.specs.Places.{KeepsToPlace}
use Rattle.proxy_connections.specs.Stages.{HasPassedAll, MayGoOver, is_lingering}
use Rattle.proxy_connections.specs.Idle.{IsIdleFor}
use Rattle.proxy_connections.specs.WaitingOutput.{stalled_bytes}
use Rattle.proxy_connections.specs.declared.stalled.Stalled.{Stalled}
use Rattle.proxy_connections.specs.declared.client_connection.ClientConnection.{ClientConnection}
use Rattle.proxy_connections.specs.declared.client_connection.Stepped.{Stepped}
use Rattle.proxy_connections.specs.declared.host_connection.HostConnection.{HostConnection}

-- a worker's place, the hosts of the settings, its clients by their keys, its own hosts, and the steps that it made, the newest first
pub record WorkerConnectionsState : Type 0 where
  pub place : Place
  pub settings : List Host
  pub clients : Slab ClientConnection
  pub hosts : List HostConnection
  pub steps : History

-- SERVED

-- a client has a key
abbrev pub IsAt : Slab ClientConnection → ℕ → ClientConnection → Type 0
IsAt clients key client = get clients key ≡ Some client

-- Each client's engine carries all that its socket's logs hold, from the socket's first byte on. Steps were made of its connection,
-- and no other client has the same.
pub record ServesClients (clients : Slab ClientConnection) (steps : History) : Type 0 where
  pub carries : (key : ℕ) (client : ClientConnection) → IsAt clients key client
      → CarriesAll client.engine steps
  pub opened : (key : ℕ) (client : ClientConnection) → IsAt clients key client → connection_steps client.engine.conn steps ≢ []
  pub apart : (key other : ℕ) (one two : ClientConnection) → IsAt clients key one → IsAt clients other two
      → one.engine.conn ≡ two.engine.conn → key ≡ other

-- the number of a host
abbrev pub number_of : HostConnection → ℕ
number_of host = host.engine.outbox.host

-- a host's engine carries all that its link's logs hold, from the link's first byte on
abbrev pub CarriesLink : History → HostConnection → Type 0
CarriesLink steps host = CarriesHostLogs host.engine.outbox host.engine.link steps no_logs

-- a host has the address that the settings have at its number
abbrev pub IsAddressed : List Host → HostConnection → Type 0
IsAddressed settings host = (entry : Host) × (slice_get settings (number_of host) ≡ Some entry) × (host.link ≡ entry.address)

-- Each host's engine carries its link's logs, each host is of this place and has its address of the settings, and no host stands twice.
pub record ServesHosts (place : Place) (settings : List Host) (hosts : List HostConnection) (steps : History) : Type 0 where
  pub carries : All (CarriesLink steps) hosts
  pub own : All (λ host. IsOf place (number_of host)) hosts
  pub addressed : All (IsAddressed settings) hosts
  pub apart : (i j : ℕ) (one two : HostConnection) → i < length hosts → j < length hosts
      → number_of (slice_index_or hosts i one) ≡ number_of (slice_index_or hosts j two) → i ≡ j

-- hosts over no steps: those of this place, each with a number below this one
pub record RiseTo (place : Place) (settings : List Host) (hosts : List HostConnection) (next : ℕ) : Type 0 where
  pub serves : ServesHosts place settings hosts []
  pub all : map number_of hosts ≡ hosts_of place next
  pub below : All (λ host. number_of host < next) hosts

-- A worker's clients and hosts are served, over the steps that it made, and none of these is of a host of another place.
pub record IsServing (place : Place) (settings : List Host) (clients : Slab ClientConnection) (hosts : List HostConnection) (steps : History) : Type 0 where
  pub clients_are : ServesClients clients steps
  pub hosts_are : ServesHosts place settings hosts steps
  pub keeps : KeepsToPlace place steps

-- An engine that is no client's yet: it carries all that its socket's logs hold, steps were made of its connection, and no client
-- has the same.
pub record IsNewcomer (engine : Engine) (clients : Slab ClientConnection) (steps : History) : Type 0 where
  pub carries : CarriesAll engine steps
  pub opened : connection_steps engine.conn steps ≢ []
  pub apart : (key : ℕ) (client : ClientConnection) → IsAt clients key client → client.engine.conn ≢ engine.conn

-- the steps that a seat has made so far
abbrev pub steps_of : SeatedFacts Event Answer Origin → History
steps_of seat = own_steps seat.pass.number seat.pass.known.seen

-- STALLED

-- the client at this key is stalled at this moment, so many bytes wait for it, and for no other stalled one more do
pub record IsMostStalled (now : ℕ) (clients : Slab ClientConnection) (stalled : Stalled) : Type 0 where
  pub client : ClientConnection
  pub there : IsAt clients stalled.key client
  pub waits : stalled_bytes now client.waiting ≡ stalled.bytes
  pub is_stalled : 0 < stalled.bytes
  pub most : (other : ℕ) (one : ClientConnection) → IsAt clients other one → stalled_bytes now one.waiting ≤ stalled.bytes

-- no client is stalled at this moment
abbrev pub NoneIsStalled : ℕ → Slab ClientConnection → Type 0
NoneIsStalled now clients = (key : ℕ) (client : ClientConnection) → IsAt clients key client → stalled_bytes now client.waiting ≡ 0

-- Of the clients with keys below this one none has more stalled bytes; where it has some they are a client's.
pub record IsMostBelow (now : ℕ) (clients : Slab ClientConnection) (end : ℕ) (most : Stalled) : Type 0 where
  pub below : (key : ℕ) (client : ClientConnection) → key < end → IsAt clients key client
      → stalled_bytes now client.waiting ≤ most.bytes
  pub there : 0 < most.bytes → (client : ClientConnection) × IsAt clients most.key client
      × (stalled_bytes now client.waiting ≡ most.bytes)

-- IDLE

-- there is a client at this key, it is served, and it has been idle for this many milliseconds; 0 is never
abbrev pub HasIdle : ℕ → ℕ → Slab ClientConnection → ℕ → Type 0
HasIdle now ms clients key =
    (client : ClientConnection) × IsAt clients key client × IsIdleFor now ms client.stage client.idle

-- CHANGES

-- Nothing but the client at this key has changed, if there is one. It is there still, and its engine carries what it carried of its
-- socket's logs: the steps made are its connection's alone.
pub record ChangesClient (key : ℕ) (old new : WorkerConnectionsState) : Type 0 where
  pub place : new.place ≡ old.place
  pub settings : new.settings ≡ old.settings
  pub hosts : new.hosts ≡ old.hosts
  pub others : (other : ℕ) → other ≢ key → get new.clients other ≡ get old.clients other
  pub stays : (client : ClientConnection) → IsAt old.clients key client
      → (after : ClientConnection) × IsAt new.clients key after × KeepsSocket client.engine after.engine old.steps new.steps
  pub vacant : get old.clients key ≡ None → new ≡ old

-- Nothing but the host at this index has changed, if there is one. Its engine carries what it carried of its link's logs: the steps
-- made are the host's alone.
pub record ChangesHost (index : ℕ) (old new : WorkerConnectionsState) : Type 0 where
  pub place : new.place ≡ old.place
  pub settings : new.settings ≡ old.settings
  pub clients : new.clients ≡ old.clients
  pub many : length new.hosts ≡ length old.hosts
  pub others : (i : ℕ) (d : HostConnection) → i ≢ index → slice_index_or new.hosts i d ≡ slice_index_or old.hosts i d
  pub keeps : (d : HostConnection) → index < length old.hosts
      → KeepsHost (ends_of (slice_index_or old.hosts index d).engine) (ends_of (slice_index_or new.hosts index d).engine) old.steps new.steps
  pub none : length old.hosts ≤ index → new ≡ old

-- each client is where it was, as it was
abbrev pub KeepsClients : Slab ClientConnection → Slab ClientConnection → Type 0
KeepsClients old new = (key : ℕ) (client : ClientConnection) → IsAt old key client → IsAt new key client

-- Each client is where it was, as it was, and at most one has come. The steps made, if any, are of one connection, which had none
-- before.
pub record AddsClient (old new : WorkerConnectionsState) : Type 0 where
  pub place : new.place ≡ old.place
  pub settings : new.settings ≡ old.settings
  pub hosts : new.hosts ≡ old.hosts
  pub stay : KeepsClients old.clients new.clients
  pub conn : ℕ
  pub later : History
  pub adds : new.steps ≡ later ++ old.steps
  pub alone : connection_steps conn later ≡ later
  pub fresh : later ≢ [] → connection_steps conn old.steps ≡ []

-- a client has come, under the key that was the next one
abbrev pub HasNewClient : WorkerConnectionsState → WorkerConnectionsState → Type 0
HasNewClient old new = (client : ClientConnection) × IsAt new.clients old.clients.vacant_key client

-- a write to the client at this key, if there is one, has failed or was broken off
abbrev pub HasFailed : Slab ClientConnection → ℕ → Type 0
HasFailed clients key = (client : ClientConnection) → IsAt clients key client → client.engine.outbox.passed.has_failed ≡ true

-- the client at this key, if there is one, is gone, and nothing else has changed
pub record RemovesClient (key : ℕ) (old new : WorkerConnectionsState) : Type 0 where
  pub place : new.place ≡ old.place
  pub settings : new.settings ≡ old.settings
  pub hosts : new.hosts ≡ old.hosts
  pub steps : new.steps ≡ old.steps
  pub clients : Updates old.clients new.clients key None

-- there is room for more clients, and nothing else has changed
pub record MakesRoom (old new : WorkerConnectionsState) : Type 0 where
  pub place : new.place ≡ old.place
  pub settings : new.settings ≡ old.settings
  pub hosts : new.hosts ≡ old.hosts
  pub steps : new.steps ≡ old.steps
  pub clients : SameValues old.clients new.clients

-- The client at this key, if there is one, may be dropped: its engine isn't stepped any more, its sending half is closed, and all
-- that its writer took has passed to the system, unless a write failed.
abbrev pub MayClose : Slab ClientConnection → ℕ → Type 0
MayClose clients key = (client : ClientConnection) → IsAt clients key client
    → (is_lingering client.stage ≡ true) × HasPassedAll client.engine.outbox

-- there is a client at this key, and its socket may go over
abbrev pub MayCarry : Slab ClientConnection → ℕ → Type 0
MayCarry clients key = (client : ClientConnection) × IsAt clients key client × MayGoOver client.engine

-- what a client's round says of the one at this key: it may be dropped, or its socket may go over, where that is its result
abbrev pub LetsGo : Stepped → Slab ClientConnection → ℕ → Type 0
LetsGo Stepped.Closed clients key = MayClose clients key
LetsGo Stepped.CarriedOver clients key = MayCarry clients key
LetsGo stepped clients key = ⊤
