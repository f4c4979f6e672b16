-- What an engine keeps of its socket's logs, over any number of calls.
use Rattle.std.specs.Prelude.{◌≡◌, ℕ, Bool, true, List, [], ◌∷◌, ◌++◌, Option, Some, None}
use Rattle.proxy_history.specs.History.{History}
use Rattle.proxy_history.specs.OwnSteps.{connection_steps, host_steps}
use Rattle.proxy_history.specs.declared.event.Kind.{Kind}
use Rattle.proxy_devices.specs.Device.{Passed}
use Rattle.proxy_engines.specs.Client.{Client, Carries, Goes}
use Rattle.proxy_engines.specs.Socket.{Past, IsLeft, IsRest, WentOn}
use Rattle.proxy_engines.specs.Ends.{RestState}
use Rattle.proxy_engines.specs.Host.{HostEnds, HostOutboxState, LinkState, CarriesHost}
use Rattle.proxy_engines.specs.HostStep.{HostCall, Records, ends_of}
use Rattle.proxy_engines.specs.Moves.{AsTold}
use Rattle.proxy_engines.specs.Logs.{Logs, Since, client_logs, link_logs, CarriesHostLogs, CarriesSocketLogs}

-- the logs of a socket from which nothing was read, and to which nothing was written
abbrev pub no_logs : Logs
no_logs = record { told = []; taken = [] }

-- From one state of a client's engine, and of its caller's steps, to another: the steps between are its connection's alone, and
-- what the engine carried of its socket's logs it carries still.
pub record KeepsSocket (old new : Client) (before after : History) : Type 0 where
  pub steps : History
  pub conn : new.conn ≡ old.conn
  pub adds : after ≡ steps ++ before
  pub alone : connection_steps old.conn steps ≡ steps
  pub carries : (pasts : List Past) (begun : Logs) → CarriesSocketLogs pasts old before begun → CarriesSocketLogs pasts new after begun

-- From one state of a host's ends, and of its caller's steps, to another: the steps between are its host's alone, and what it
-- carried of its link's logs, each link's from these on, it carries still.
pub record KeepsLink (begun : Logs) (old new : HostEnds) (before after : History) : Type 0 where
  pub steps : History
  pub host : new.outbox.host ≡ old.outbox.host
  pub adds : after ≡ steps ++ before
  pub alone : host_steps old.outbox.host steps ≡ steps
  pub carries : CarriesHostLogs old.outbox old.link before begun → CarriesHostLogs new.outbox new.link after begun

-- These connections are closed: the writer took the first bytes, the reader told the others, and this rest holds what of them was
-- not asked.
pub record LeavesRest (pasts : List Past) (rest : RestState) (taken told : List ℕ) : Type 0 where
  pub left : List ℕ
  pub went_on : WentOn rest.behind pasts taken told left
  pub rest_is : IsRest rest left

-- A socket between two connections: those before are closed, its writer took all that was handed out to them, and this rest holds
-- what they didn't ask of the bytes that its reader told.
abbrev pub IsBetween : List Past → RestState → Logs → Logs → Type 0
IsBetween pasts rest begun now = Since begun now (LeavesRest pasts rest)

-- LAWS

-- A client's engine keeps its socket over nothing, over what keeps it twice, over its moves, where it is drained, and where its
-- writer passes on what it took. Where it leaves a rest the socket is between two connections, and the engine that is opened with
-- that rest goes on from it.
pub record ClientsKeepSockets : Type 0 where
  pub same : (e : Client) (H : History) → KeepsSocket e e H H
  pub then : (a b c : Client) (x y z : History) → KeepsSocket a b x y → KeepsSocket b c y z → KeepsSocket a c x z
  pub moves : (old new : Client) (H H' : History) (told : Option Bool) → AsTold (Goes old new H H') told → KeepsSocket old new H H'
  pub drains : (e : Client) (H : History) → KeepsSocket e (record e { is_drained = true }) H H
  pub passes : (e : Client) (passed : Passed) (H : History) → KeepsSocket e (record e { outbox = record e.outbox { passed = passed } }) H H
  pub leaves : (pasts : List Past) (e : Client) (H : History) (rest : RestState) (begun : Logs)
      → ((taken told : List ℕ) → Carries e H taken told → IsLeft e.conn e.behind H taken told rest)
      → CarriesSocketLogs pasts e H begun → IsBetween (record { conn = e.conn; steps = H } ∷ pasts) rest begun (client_logs e)
  pub opens : (pasts : List Past) (e : Client) (H : History) (rest : RestState) (begun : Logs)
      → e.behind ≡ rest.behind → ((bytes : List ℕ) → IsRest rest bytes → Carries e H [] bytes)
      → IsBetween pasts rest begun (client_logs e) → CarriesSocketLogs pasts e H begun

-- A host's engine keeps its link over nothing, over what keeps it twice, and where a fault is recorded. An engine to which a link was attached keeps it from that link's logs on.
pub record HostsKeepLinks : Type 0 where
  pub same : (begun : Logs) (e : HostEnds) (H : History) → KeepsLink begun e e H H
  pub then : (begun : Logs) (a b c : HostEnds) (x y z : History) → KeepsLink begun a b x y → KeepsLink begun b c y z → KeepsLink begun a c x z
  pub records : (begun : Logs) (call : HostCall) (kind : Kind) → Records call kind
      → KeepsLink begun (ends_of call.old) (ends_of call.new) call.before call.after
  pub attaches : (outbox : HostOutboxState) (link : LinkState) (H : History) (begun : Logs)
      → (CarriesHost outbox None H [] [] → CarriesHost outbox (Some link) H [] []) → link_logs link ≡ begun
      → KeepsLink begun (record { outbox = outbox; link = None }) (record { outbox = outbox; link = Some link }) H H
