-- What one client and some hosts do beside one another, over the steps of their caller.
use Rattle.std.specs.Prelude.{◌≡◌, ◌≢◌, ℕ, List, [], ◌++◌}
use Rattle.std.specs.Io.KnownBytes.{Consumes, Appends}
use Rattle.std.specs.List.{AllZip}
use Rattle.proxy_history.specs.History.{History, Step}
use Rattle.proxy_history.specs.OwnSteps.{connection_steps}
use Rattle.proxy_history.specs.declared.event.Event.{Event}
use Rattle.proxy_history.specs.declared.refusal.Refusal.{Refusal}
use Rattle.proxy_engines.specs.Client.{Client, Carries}
use Rattle.proxy_engines.specs.HostStep.{HostState, IsIdleOn}
use Rattle.proxy_engines.specs.OneTurn.{HasHeld}

-- Some steps were made, none of them a connection's.
pub record IsBeside (H H' : History) : Type 0 where
  pub later : History
  pub adds : H' ≡ later ++ H
  pub none : (c : ℕ) → connection_steps c later ≡ []

-- Some moves of a client, and of hosts beside it: bytes that were read, bytes that were taken, steps of no other
-- connection, and what the client carries; whether it reads no more, and what closes it, stay as they were.
pub record GoesBeside (old new : Client) (H H' : History) : Type 0 where
  pub got : List ℕ
  pub gave : List ℕ
  pub later : History
  pub reads : Consumes old.inbox.left new.inbox.left got
  pub writes : Appends old.outbox.held new.outbox.held gave
  pub conn : new.conn ≡ old.conn
  pub drained : new.is_drained ≡ old.is_drained
  pub behind : new.behind ≡ old.behind
  pub adds : H' ≡ later ++ H
  pub alone : (c : ℕ) → c ≢ old.conn → connection_steps c later ≡ []
  pub carries : (taken b : List ℕ) → Carries old H taken b → Carries new H' (taken ++ gave) (b ++ got)

-- A host's engine did nothing in a step: nothing could be read; and nothing could be written, or nothing was pending and no part
-- waited.
abbrev pub RestsIdle : (Refusal → Event → List Step → Type 0) → List Step → List Step → HostState → HostState → Type 0
RestsIdle cause x y old new = IsIdleOn (HasHeld (cause Refusal.NothingWaiting) (Event.Taken old.outbox.host) x y) old.outbox old.link new.link

-- Each host's engine did nothing in its last step, and those steps were made between these two.
abbrev pub HaveRested : (Refusal → Event → List Step → Type 0) → List Step → List Step → List HostState → Type 0
HaveRested cause x y hosts = (before : List HostState) × AllZip (RestsIdle cause x y) before hosts
