-- What an engine carries over the logs of its devices, sockets included.
use Rattle.std.specs.Prelude.{◌≡◌, ℕ, Bool, true, List, [], ◌∷◌, ◌++◌, Option, Some, None}
use Rattle.splitter.specs.Request.{Request}
use Rattle.splitter.specs.Requests.{AreRequests}
use Rattle.proxy_history.specs.History.{History}
use Rattle.proxy_history.specs.Replies.{replies_from}
use Rattle.proxy_history.specs.Output.{transcript, upstream}
use Rattle.proxy_history.specs.OwnSteps.{connection_steps, host_steps}
use Rattle.proxy_history.specs.declared.event.Kind.{Kind}
use Rattle.proxy_engines.specs.Client.{Client, Carries, Goes, asked_requests}
use Rattle.proxy_engines.specs.Ends.{RestState}
use Rattle.proxy_engines.specs.Socket.{Past, CarriesOn, IsLeft, IsRest, asked_before, said_before}
use Rattle.proxy_engines.specs.Host.{HostMove, HostOutboxState, LinkState, CarriesHost, FailsHost, GoesOn, HoldsLink}

-- the logs of a reader and a writer: all that the one told, and all that the other took
pub record Logs : Type 0 where
  pub told : List ℕ
  pub taken : List ℕ

-- those of a client's engine
abbrev pub client_logs : Client → Logs
client_logs engine = record { told = engine.inbox.told; taken = engine.outbox.taken }

-- those of a link
abbrev pub link_logs : LinkState → Logs
link_logs link = record { told = link.inbox.told; taken = link.taken }

-- from these logs to those the writer took some bytes and the reader told others, and this holds of them
pub record Since (begun now : Logs) (holds : List ℕ → List ℕ → Type 0) : Type 0 where
  pub taken : List ℕ
  pub told : List ℕ
  pub taken_is : now.taken ≡ begun.taken ++ taken
  pub told_is : now.told ≡ begun.told ++ told
  pub so : holds taken told

-- An engine that was opened over these logs carries what its devices took and told since.
abbrev pub CarriesLogs : Client → History → Logs → Type 0
CarriesLogs engine steps begun = Since begun (client_logs engine) (Carries engine steps)

-- An engine of a socket whose first was opened over these logs carries on what its devices took and told since.
abbrev pub CarriesSocketLogs : List Past → Client → History → Logs → Type 0
CarriesSocketLogs pasts engine steps begun = Since begun (client_logs engine) (CarriesOn pasts engine steps)

-- A host's engine carries what its link's devices took and told since the link was attached over these logs; without a link
-- nothing was taken or told.
abbrev pub CarriesHostLogs : HostOutboxState → Option LinkState → History → Logs → Type 0
CarriesHostLogs outbox None steps begun = CarriesHost outbox None steps [] []
CarriesHostLogs outbox (Some link) steps begun = Since begun (link_logs link) (CarriesHost outbox (Some link) steps)

-- CLIENTS

-- The writer's log and what is pending are the log of the beginning and all that was handed out; and the requests accepted are
-- the first of those that the bytes ask that the reader told since.
pub record IsServed (engine : Client) (steps : History) (begun : Logs) : Type 0 where
  pub told : List ℕ
  pub told_is : engine.inbox.told ≡ begun.told ++ told
  pub taken_is : engine.outbox.taken ++ engine.outbox.pending ≡ begun.taken ++ transcript engine.conn steps
  pub asked_are : (rs : List Request) → AreRequests told rs → (more : List Request) × (rs ≡ asked_requests engine.conn steps ++ more)

-- A client's engine carries its logs where it was opened, over its moves, where it is drained and over steps of others; and one
-- that does is served.
pub record ClientsCarryLogs : Type 0 where
  pub begins : (e : Client) (H : History) → Carries e H [] [] → CarriesLogs e H (client_logs e)
  pub moves : (old new : Client) (H H' : History) (moved : Bool) (begun : Logs) → Goes old new H H' moved
      → CarriesLogs old H begun → CarriesLogs new H' begun
  pub drains : (e : Client) (H : History) (begun : Logs) → CarriesLogs e H begun → CarriesLogs (record e { is_drained = true }) H begun
  pub stays : (e : Client) (H later : History) (begun : Logs) → connection_steps e.conn later ≡ []
      → CarriesLogs e H begun → CarriesLogs e (later ++ H) begun
  pub serves : (e : Client) (H : History) (begun : Logs) → CarriesLogs e H begun → IsServed e H begun

-- SOCKETS

-- The writer's log and what is pending are the log of the beginning and all that was handed out to the socket's connections, one
-- after the other; and the requests that they accepted are the first of those that the bytes ask that its reader told since.
pub record IsSocketServed (pasts : List Past) (engine : Client) (steps : History) (begun : Logs) : Type 0 where
  pub told : List ℕ
  pub told_is : engine.inbox.told ≡ begun.told ++ told
  pub taken_is : engine.outbox.taken ++ engine.outbox.pending ≡ begun.taken ++ (said_before pasts ++ transcript engine.conn steps)
  pub asked_are : (rs : List Request) → AreRequests told rs
      → (more : List Request) × (rs ≡ (asked_before pasts ++ asked_requests engine.conn steps) ++ more)

-- An engine leaves this rest, and the next one that is opened with it goes on from it, over the same logs.
pub record HandsOver (old new : Client) (before after : History) (rest : RestState) : Type 0 where
  pub leaves : (taken bytes : List ℕ) → Carries old before taken bytes → IsLeft old.conn old.behind before taken bytes rest
  pub behind_is : new.behind ≡ rest.behind
  pub opens : (bytes : List ℕ) → IsRest rest bytes → Carries new after [] bytes
  pub logs : client_logs new ≡ client_logs old

-- A socket's engines carry its logs from the first of them on, also where one hands over to the next; and the socket is served.
pub record SocketsCarryLogs : Type 0 where
  pub begins : (e : Client) (H : History) (begun : Logs) → CarriesLogs e H begun → CarriesSocketLogs [] e H begun
  pub moves : (ps : List Past) (old new : Client) (H H' : History) (moved : Bool) (begun : Logs) → Goes old new H H' moved
      → CarriesSocketLogs ps old H begun → CarriesSocketLogs ps new H' begun
  pub drains : (ps : List Past) (e : Client) (H : History) (begun : Logs) → CarriesSocketLogs ps e H begun
      → CarriesSocketLogs ps (record e { is_drained = true }) H begun
  pub stays : (ps : List Past) (e : Client) (H later : History) (begun : Logs) → connection_steps e.conn later ≡ []
      → CarriesSocketLogs ps e H begun → CarriesSocketLogs ps e (later ++ H) begun
  pub goes_over : (ps : List Past) (old new : Client) (H H' : History) (r : RestState) (begun : Logs) → HandsOver old new H H' r
      → CarriesSocketLogs ps old H begun → CarriesSocketLogs (record { conn = old.conn; steps = H } ∷ ps) new H' begun
  pub serves : (ps : List Past) (e : Client) (H : History) (begun : Logs) → CarriesSocketLogs ps e H begun → IsSocketServed ps e H begun

-- HOSTS

-- The writer's log and what is pending are the log of the beginning and all that was sent to the host in its epoch; and the values
-- that came are the first of those of the bytes that the reader told since.
pub record IsLinkServed (outbox : HostOutboxState) (link : LinkState) (steps : History) (begun : Logs) : Type 0 where
  pub told : List ℕ
  pub told_is : link.inbox.told ≡ begun.told ++ told
  pub taken_is : link.taken ++ outbox.pending ≡ begun.taken ++ upstream outbox.host outbox.epoch steps
  pub came_are : HoldsLink link (replies_from outbox.host outbox.epoch steps) told

-- A host's engine carries a link's logs where it was attached, over its moves and over steps of others; a fault gives up the
-- link; and a link of which it does is served.
pub record HostsCarryLogs : Type 0 where
  pub begins : (l : HostOutboxState) (k : LinkState) (H : History) → CarriesHost l (Some k) H [] []
      → CarriesHostLogs l (Some k) H (link_logs k)
  pub moves : (move : HostMove) (moved : Bool) (begun : Logs) → GoesOn move moved
      → CarriesHostLogs move.old.outbox move.old.link move.before begun → CarriesHostLogs move.new.outbox move.new.link move.after begun
  pub fails : (move : HostMove) (kind : Kind) (begun next : Logs) → FailsHost move kind
      → CarriesHostLogs move.old.outbox move.old.link move.before begun → CarriesHostLogs move.new.outbox None move.after next
  pub stays : (l : HostOutboxState) (k : Option LinkState) (H later : History) (begun : Logs) → host_steps l.host later ≡ []
      → CarriesHostLogs l k H begun → CarriesHostLogs l k (later ++ H) begun
  pub serves : (l : HostOutboxState) (k : LinkState) (H : History) (begun : Logs) → CarriesHostLogs l (Some k) H begun → IsLinkServed l k H begun
