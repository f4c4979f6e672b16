-- A socket that goes on from one connection to the next, each in a generation of its own.
use Rattle.std.specs.Prelude.{◌≡◌, ℕ, true, false, List, [], ◌∷◌, ◌++◌, Option, map}
use Rattle.resp_core.specs.Tree.{Tree}
use Rattle.resp_core.specs.Stream.{Splits}
use Rattle.limits.specs.declared.messages.TheConstants.{MAX_CLIENT_MEMBERS}
use Rattle.splitter.specs.Request.{Request, read}
use Rattle.splitter.specs.Requests.{AreRequests, up_to_last}
use Rattle.proxy_history.specs.History.{History, accepted_count, handed_count, is_closed}
use Rattle.proxy_history.specs.Output.{transcript}
use Rattle.proxy_history.specs.OwnSteps.{connection_steps}
use Rattle.proxy_devices.specs.Device.{Counts}
use Rattle.proxy_engines.specs.Ends.{RestState, HoldsBehind, end_with}
use Rattle.close_behind.specs.CloseBehind.{Behind, NoneCloses, up_to_closing}
use Rattle.proxy_engines.specs.Client.{Client, Carries, Goes, NoneFinishes, asked_requests, waiting_requests}
use Rattle.proxy_engines.specs.declared.client.Stage.{Stage}

-- with any reader, an inbox made of it has been fed these bytes and has returned only the waiting request
pub record IsRest (rest : RestState) (bytes : List ℕ) : Type 0 where
  pub most_is : rest.values.most ≡ MAX_CLIENT_MEMBERS
  pub holds : (left : Option (List ℕ)) (told : List ℕ) (counts : Counts) → HoldsBehind (end_with left told counts rest) bytes (waiting_requests rest.next)

-- A connection was closed with all answered, and left this rest. The bytes are the texts of what it asked, none of which
-- finishes or closes it, and then this rest; and the writer took all that was handed out.
pub record IsLeft (conn : ℕ) (behind : Behind) (steps : History) (taken bytes : List ℕ) (kept : RestState) : Type 0 where
  pub asked : List Tree
  pub rest : List ℕ
  pub asked_are : asked_requests conn steps ≡ map read asked
  pub splits : Splits MAX_CLIENT_MEMBERS bytes asked rest
  pub goes_on : NoneFinishes (asked_requests conn steps)
  pub stays : NoneCloses behind (asked_requests conn steps)
  pub behind_is : kept.behind ≡ behind
  pub stands : IsRest kept rest
  pub taken_is : taken ≡ transcript conn steps
  pub all_handed : handed_count conn steps ≡ accepted_count conn steps
  pub closed : is_closed conn steps ≡ true

-- a connection of a socket that is closed, and the steps of its engine's caller in its generation
pub record Past : Type 0 where
  pub conn : ℕ
  pub steps : History

-- what closed connections asked; the newest of them stands first
abbrev pub asked_before : List Past → List Request
asked_before [] = []
asked_before (p ∷ ps) = asked_before ps ++ asked_requests p.conn p.steps

-- what was handed out to them
abbrev pub said_before : List Past → List ℕ
said_before [] = []
said_before (p ∷ ps) = said_before ps ++ transcript p.conn p.steps

-- one connection more was closed: it went on from what those before it had left
pub record FollowsOn (WentBefore : List ℕ → List ℕ → List ℕ → Type 0) (behind : Behind) (past : Past) (taken bytes rest : List ℕ) : Type 0 where
  pub took : List ℕ
  pub came : List ℕ
  pub left : List ℕ
  pub gave : List ℕ
  pub got : List ℕ
  pub held : RestState
  pub before : WentBefore took came left
  pub is_left : IsLeft past.conn behind past.steps gave (left ++ got) held
  pub taken_is : taken ≡ took ++ gave
  pub bytes_are : bytes ≡ came ++ got
  pub rest_is : rest ≡ is_left.rest

-- Of one socket these connections were closed, each of which went on from what the one before it left. The writer took these
-- bytes, the reader gave these, and this rest of them was not asked.
abbrev pub WentOn : Behind → List Past → List ℕ → List ℕ → List ℕ → Type 0
WentOn behind [] taken bytes rest = (taken ≡ []) × (bytes ≡ []) × (rest ≡ [])
WentOn behind (past ∷ pasts) taken bytes rest = FollowsOn (WentOn behind pasts) behind past taken bytes rest

-- And now an engine carries on: what it reads stands behind the rest. Of the whole socket the writer took these bytes, and the
-- reader gave these.
pub record CarriesOn (pasts : List Past) (engine : Client) (steps : History) (taken bytes : List ℕ) : Type 0 where
  pub took : List ℕ
  pub came : List ℕ
  pub left : List ℕ
  pub gave : List ℕ
  pub got : List ℕ
  pub before : WentOn engine.behind pasts took came left
  pub carries : Carries engine steps gave (left ++ got)
  pub taken_is : taken ≡ took ++ gave
  pub bytes_are : bytes ≡ came ++ got

-- A socket's first engine carries on from nothing.
abbrev pub SocketBegins : Type 0
SocketBegins = (e : Client) (H : History) (taken b : List ℕ) → Carries e H taken b → CarriesOn [] e H taken b

-- Whatever moves an engine makes, it carries on.
abbrev pub SocketMoves : Type 0
SocketMoves = (ps : List Past) (old new : Client) (H H' : History) (moved : _) (taken b : List ℕ) → (g : Goes old new H H' moved)
    → CarriesOn ps old H taken b → CarriesOn ps new H' (taken ++ g.gave) (b ++ g.got)

-- Steps of others change nothing.
abbrev pub SocketStays : Type 0
SocketStays = (ps : List Past) (e : Client) (H later : History) (taken b : List ℕ) → connection_steps e.conn later ≡ []
    → CarriesOn ps e H taken b → CarriesOn ps e (later ++ H) taken b

-- An engine that was opened, in whatever generation, with the rest that another left carries on in its place.
abbrev pub SocketGoesOver : Type 0
SocketGoesOver = (ps : List Past) (e next : Client) (H H' : History) (r : RestState) (taken b : List ℕ)
    → ((t x : List ℕ) → Carries e H t x → IsLeft e.conn e.behind H t x r) → next.behind ≡ r.behind → ((x : List ℕ) → IsRest r x → Carries next H' [] x)
    → CarriesOn ps e H taken b → CarriesOn (record { conn = e.conn; steps = H } ∷ ps) next H' taken b

-- The requests that a socket's connections accepted, one connection after the other, are the first of those that all bytes
-- read from it ask: none is lost between two connections, and none is asked twice.
abbrev pub SocketAsksInOrder : Type 0
SocketAsksInOrder = (ps : List Past) (e : Client) (H : History) (taken b : List ℕ) → CarriesOn ps e H taken b
    → (rs : List Request) → AreRequests b rs → (more : List Request) × (rs ≡ (asked_before ps ++ asked_requests e.conn H) ++ more)

-- What the writer took and what is pending is what was handed out to them, one connection after the other.
abbrev pub SocketAnswersInOrder : Type 0
SocketAnswersInOrder = (ps : List Past) (e : Client) (H : History) (taken b : List ℕ) → CarriesOn ps e H taken b
    → taken ++ e.outbox.pending ≡ said_before ps ++ transcript e.conn H

-- And where the last of them ended, all that was asked up to and with the first request that finishes was accepted, handed out
-- and taken.
pub record IsSocketWhole (pasts : List Past) (engine : Client) (steps : History) (taken : List ℕ) (requests : List Request) : Type 0 where
  pub accepted_are : asked_before pasts ++ asked_requests engine.conn steps ≡ up_to_last requests
  pub all_handed : handed_count engine.conn steps ≡ accepted_count engine.conn steps
  pub taken_is : taken ≡ said_before pasts ++ transcript engine.conn steps

-- Where the last connection ended and was not halted for a drain, all requests up to and with the first that finishes were
-- accepted, handed out and taken.
abbrev pub SocketEndsWhole : Type 0
SocketEndsWhole = (ps : List Past) (e : Client) (H : History) (taken b : List ℕ) → CarriesOn ps e H taken b → e.stage ≡ Stage.Closed false → e.is_halted ≡ false
    → (rs : List Request) → AreRequests b rs → IsSocketWhole ps e H taken rs

-- WHERE A REFUSED COMMAND CLOSES

-- What its connections accepted are the first requests up to and with the first that closes one, where the last has closed; and
-- else none of them does. Where it has closed it is halted, so that no further one is opened.
pub record IsSocketCut (pasts : List Past) (engine : Client) (steps : History) (requests : List Request) : Type 0 where
  pub closing : engine.is_closing ≡ true → asked_before pasts ++ asked_requests engine.conn steps ≡ up_to_closing engine.behind requests
  pub goes_on : engine.is_closing ≡ false → NoneCloses engine.behind (asked_before pasts ++ asked_requests engine.conn steps)

-- So it is with each socket, whatever requests its bytes ask.
abbrev pub SocketCloses : Type 0
SocketCloses = (ps : List Past) (e : Client) (H : History) (taken b : List ℕ) → CarriesOn ps e H taken b
    → (rs : List Request) → AreRequests b rs → IsSocketCut ps e H rs

-- Where the last connection has ended behind a refused command, all that was accepted was handed out and taken.
pub record IsSocketAnswered (pasts : List Past) (engine : Client) (steps : History) (taken : List ℕ) : Type 0 where
  pub all_handed : handed_count engine.conn steps ≡ accepted_count engine.conn steps
  pub taken_is : taken ≡ said_before pasts ++ transcript engine.conn steps

-- So it is with each socket whose connection has ended without a fault.
abbrev pub SocketClosesAnswered : Type 0
SocketClosesAnswered = (ps : List Past) (e : Client) (H : History) (taken b : List ℕ) → CarriesOn ps e H taken b
    → e.stage ≡ Stage.Closed false → IsSocketAnswered ps e H taken
