-- What a run of one client leaves.
use Rattle.std.specs.Prelude.{◌≡◌, ◌≢◌, true, ℕ, List, [], Option, IfSome, length}
use Rattle.std.specs.Io.KnownBytes.{Appends}
use Rattle.splitter.specs.Request.{Request}
use Rattle.splitter.specs.Requests.{AreRequests, up_to_last}
use Rattle.proxy_history.specs.Setting.{Setting}
use Rattle.proxy_history.specs.History.{History, handed_count, is_closed}
use Rattle.proxy_history.specs.Legal.{IsLegal}
use Rattle.proxy_history.specs.Output.{transcript}
use Rattle.proxy_history.specs.OwnSteps.{connection_steps}
use Rattle.proxy_engines.specs.Client.{asked_requests}
use Rattle.proxy_local.specs.Stubs.{IsOfStubs}

-- A legal history of a proxy for the hosts in memory, in which no connection but the first has a step: it was asked the
-- requests of the bytes b up to and with the first that finishes, each was answered, and it was closed. What was handed out
-- to it was written.
pub record RunsWhole (b : List ℕ) (held holds : Option (List ℕ)) : Type 0 where
  pub setting : Setting
  pub history : History
  pub requests : List Request
  pub of_stubs : IsOfStubs setting
  pub is_legal : IsLegal setting history
  pub are : AreRequests b requests
  pub accepted_are : asked_requests 0 history ≡ up_to_last requests
  pub all_handed : handed_count 0 history ≡ length (up_to_last requests)
  pub closed : is_closed 0 history ≡ true
  pub alone : (c : ℕ) → c ≢ 0 → connection_steps c history ≡ []
  pub written : Appends held holds (transcript 0 history)

-- all that a run of `local` promises (`RunsWhole`), where the reader's bytes are known
abbrev pub RunsLocal : Option (List ℕ) → Option (List ℕ) → Option (List ℕ) → Type 0
RunsLocal came held holds = IfSome came (λ b. RunsWhole b held holds)
