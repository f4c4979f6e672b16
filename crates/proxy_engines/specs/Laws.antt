-- What follows from what an engine carries.
use Rattle.std.specs.Prelude.{◌≡◌, ◌≢◌, ◌⊎◌, ℕ, true, false, List, [], ◌++◌, Option}
use Rattle.splitter.specs.Request.{Request}
use Rattle.splitter.specs.Requests.{AreRequests, up_to_last}
use Rattle.proxy_history.specs.History.{History, accepted_count, handed_count}
use Rattle.proxy_history.specs.Output.{transcript}
use Rattle.proxy_history.specs.OwnSteps.{connection_steps, host_steps}
use Rattle.std.specs.Io.KnownBytes.{IsAtEnd}
use Rattle.close_behind.specs.CloseBehind.{NoneCloses, up_to_closing}
use Rattle.proxy_engines.specs.Client.{Client, Carries, LastFinishes, asked_requests}
use Rattle.proxy_engines.specs.Host.{HostOutboxState, LinkState, CarriesHost}
use Rattle.proxy_engines.specs.declared.client.Stage.{Stage}

-- The requests accepted are the first of those that the bytes read ask.
abbrev pub AcceptedAreFirst : Type 0
AcceptedAreFirst = (e : Client) (H : History) (taken b : List ℕ) → Carries e H taken b
    → (rs : List Request) → AreRequests b rs → (more : List Request) × (rs ≡ asked_requests e.conn H ++ more)

-- A client that ended has accepted the requests of all bytes up to and with the first that finishes; all were handed out,
-- and the writer took all that was handed out.
pub record IsWholly (engine : Client) (steps : History) (taken : List ℕ) (requests : List Request) : Type 0 where
  pub accepted_are : asked_requests engine.conn steps ≡ up_to_last requests
  pub all_handed : handed_count engine.conn steps ≡ accepted_count engine.conn steps
  pub taken_is : taken ≡ transcript engine.conn steps

-- a client that ended, and wasn't halted for a drain, has answered all that it was asked
abbrev pub EndedIsWhole : Type 0
EndedIsWhole = (e : Client) (H : History) (taken b : List ℕ) → Carries e H taken b → e.stage ≡ Stage.Closed false → e.is_halted ≡ false
    → (rs : List Request) → AreRequests b rs → IsWholly e H taken rs

-- A client that ended and wasn't halted for a drain has come to the end of its input, or a request finished it.
abbrev pub EndedIsOver : Type 0
EndedIsOver = (e : Client) (H : History) (taken b : List ℕ) → Carries e H taken b → e.stage ≡ Stage.Closed false → e.is_halted ≡ false
    → IsAtEnd e.inbox.left ⊎ LastFinishes (asked_requests e.conn H)

-- Where a client's last request closes its connection, it has accepted the first requests of all bytes up to and with the first
-- that does, and it takes no further one; and else it has accepted none that does.
pub record IsCutBehind (engine : Client) (steps : History) (requests : List Request) : Type 0 where
  pub closing : engine.is_closing ≡ true → (asked_requests engine.conn steps ≡ up_to_closing engine.behind requests) × (engine.stage ≢ Stage.Open)
  pub goes_on : engine.is_closing ≡ false → NoneCloses engine.behind (asked_requests engine.conn steps)

-- So it is with each client, whatever requests its bytes ask.
abbrev pub RefusedClose : Type 0
RefusedClose = (e : Client) (H : History) (taken b : List ℕ) → Carries e H taken b
    → (rs : List Request) → AreRequests b rs → IsCutBehind e H rs

-- A client that ended, for whatever reason but a fault, has handed out all that was accepted, and the writer took it.
abbrev pub EndedIsAnswered : Type 0
EndedIsAnswered = (e : Client) (H : History) (taken b : List ℕ) → Carries e H taken b → e.stage ≡ Stage.Closed false
    → (handed_count e.conn H ≡ accepted_count e.conn H) × (taken ≡ transcript e.conn H)

-- Steps of others leave what an engine carries as it is.
abbrev pub OthersLeaveClients : Type 0
OthersLeaveClients = (e : Client) (H later : History) (taken b : List ℕ) → connection_steps e.conn later ≡ []
    → Carries e H taken b → Carries e (later ++ H) taken b

-- Steps of others leave what a host's engine carries as it is.
abbrev pub OthersLeaveHosts : Type 0
OthersLeaveHosts = (l : HostOutboxState) (k : Option LinkState) (H later : History) (taken b : List ℕ) → host_steps l.host later ≡ []
    → CarriesHost l k H taken b → CarriesHost l k (later ++ H) taken b

-- The steps of a client's engine are no other connection's, and no host's.
abbrev pub ClientsLeaveOthers : Type 0
ClientsLeaveOthers = (c : ℕ) (steps : History) → connection_steps c steps ≡ steps
    → ((d : ℕ) → d ≢ c → connection_steps d steps ≡ []) × ((h : ℕ) → host_steps h steps ≡ [])

-- The steps of a host's engine are no other host's, and no connection's.
abbrev pub HostsLeaveOthers : Type 0
HostsLeaveOthers = (h : ℕ) (steps : History) → host_steps h steps ≡ steps
    → ((g : ℕ) → g ≢ h → host_steps g steps ≡ []) × ((c : ℕ) → connection_steps c steps ≡ [])
