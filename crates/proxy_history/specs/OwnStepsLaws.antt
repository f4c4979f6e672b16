-- What own steps tell: of a connection and of a host all that concerns it.
use Rattle.std.specs.Prelude.{◌≡◌, ℕ, [], ◌++◌}
use Rattle.proxy_history.specs.History.{History, accepted_count, handed_count, epoch, requests, is_closed, is_finishing}
use Rattle.proxy_history.specs.Replies.{replies_from}
use Rattle.proxy_history.specs.Output.{transcript, upstream}
use Rattle.proxy_history.specs.OwnSteps.{connection_steps, host_steps}

-- Two histories tell the same of a connection: what went out to it, what it asked, and how far it came.
pub record SameOfConnection (c : ℕ) (H K : History) : Type 0 where
  pub same_transcript : transcript c K ≡ transcript c H
  pub same_requests : requests c K ≡ requests c H
  pub same_accepted : accepted_count c K ≡ accepted_count c H
  pub same_handed : handed_count c K ≡ handed_count c H
  pub same_finishing : is_finishing c K ≡ is_finishing c H
  pub same_closed : is_closed c K ≡ is_closed c H

-- They tell the same of a host: its epoch, what was sent to it in each epoch, and what came from it.
pub record SameOfHost (h : ℕ) (H K : History) : Type 0 where
  pub same_epoch : epoch h K ≡ epoch h H
  pub same_upstream : (e : ℕ) → upstream h e K ≡ upstream h e H
  pub same_replies : (e : ℕ) → replies_from h e K ≡ replies_from h e H

-- the steps of a connection alone tell all of it
abbrev pub ConnectionStepsTellAll : Type 0
ConnectionStepsTellAll = (H : History) (c : ℕ) → SameOfConnection c H (connection_steps c H)

-- the steps of a host alone tell all of it
abbrev pub HostStepsTellAll : Type 0
HostStepsTellAll = (H : History) (h : ℕ) → SameOfHost h H (host_steps h H)

-- steps of others leave a connection as it is
abbrev pub OthersLeaveConnections : Type 0
OthersLeaveConnections = (later before : History) (c : ℕ) → connection_steps c later ≡ []
    → SameOfConnection c before (later ++ before)

-- steps of others leave a host as it is
abbrev pub OthersLeaveHosts : Type 0
OthersLeaveHosts = (later before : History) (h : ℕ) → host_steps h later ≡ []
    → SameOfHost h before (later ++ before)
