-- What a worker's clients and hosts keep of their sockets' logs.
use Rattle.std.specs.Prelude.{◌≡◌, ◌≢◌, ◌⊎◌, ◌++◌, ⊤, [], ◌∷◌, true, List, ℕ}
use Rattle.proxy_core.specs.Recorded.{Origin, IsLegalJournal}
use Rattle.proxy_history.specs.History.{History, Step}
use Rattle.proxy_history.specs.OwnSteps.{connection_steps}
use Rattle.proxy_engines.specs.Client.{Client}
use Rattle.proxy_engines.specs.Socket.{Past}
use Rattle.proxy_engines.specs.Ends.{RestState}
use Rattle.proxy_engines.specs.Host.{HostEnds}
use Rattle.proxy_engines.specs.Keeps.{IsBetween, KeepsLink, no_logs}
use Rattle.proxy_engines.specs.Logs.{Logs, CarriesSocketLogs}
use Rattle.proxy_engines.specs.Turns.{own_steps}
use Rattle.socket_halves.specs.SocketReader.{SocketReaderState}
use Rattle.socket_halves.specs.SocketWriter.{SocketWriterState}
use Rattle.socket_halves.specs.WriteBuffer.{accepted}

-- the logs of a socket's halves: all that was delivered to its engines, and all that these had accepted for it
abbrev pub logs_of : SocketReaderState → SocketWriterState → Logs
logs_of reader writer = record { told = reader.end.delivered; taken = accepted writer.output }

-- an engine takes in nothing more, or is as it was
abbrev pub MayDrain : Client → Client → Type 0
MayDrain old new = (new ≡ old) ⊎ (new ≡ record old { is_drained = true })

-- these are the steps that one pass made in some legal journal
pub record AreOfPass (steps : History) : Type 0 where
  pub made : Origin
  pub journal : List Step
  pub pass : ℕ
  pub is_legal : IsLegalJournal made journal
  pub own : own_steps pass journal ≡ steps

-- each of these connections was one of a pass in a legal journal
abbrev pub WereLegal : List Past → Type 0
WereLegal [] = ⊤
WereLegal (past ∷ pasts) = ∥ AreOfPass past.steps ∥₁ × WereLegal pasts

-- An engine carries all that its socket's logs hold, over these steps: first as connections that are closed, each in a legal journal.
pub record CarriesAll (engine : Client) (steps : History) : Type 0 where
  pub pasts : List Past
  pub legal : WereLegal pasts
  pub carries : CarriesSocketLogs pasts engine steps no_logs

-- An engine was opened for a connection of which no step was made before. The steps made are its own, at least one, and it carries
-- all that its socket's logs hold, from the socket's first byte on.
pub record OpensSocket (engine : Client) (before after : History) : Type 0 where
  pub later : History
  pub adds : after ≡ later ++ before
  pub alone : connection_steps engine.conn later ≡ later
  pub some : connection_steps engine.conn later ≢ []
  pub fresh : connection_steps engine.conn before ≡ []
  pub carries : CarriesAll engine after

-- An engine carries all that its socket's logs hold, over the steps of a pass in a legal journal.
pub record CarriesItsSocket (engine : Client) : Type 0 where
  pub steps : History
  pub of_pass : ∥ AreOfPass steps ∥₁
  pub carries : CarriesAll engine steps

-- A socket with this rest and these logs is between two connections: all of those before it were answered, each in a legal journal.
pub record IsCarried (rest : RestState) (logs : Logs) : Type 0 where
  pub pasts : List Past
  pub legal : WereLegal pasts
  pub between : IsBetween pasts rest no_logs logs

-- A host's connection keeps each of its links, from the link's first byte on.
abbrev pub KeepsHost : HostEnds → HostEnds → History → History → Type 0
KeepsHost old new before after = KeepsLink no_logs old new before after
