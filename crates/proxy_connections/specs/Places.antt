-- Which worker steps which host, and that a host's steps are of one pass.
use Rattle.std.specs.Prelude.{◌≡◌, ◌≢◌, ℕ, List, [], Option, Some, None}
use Rattle.proxy_history.specs.History.{History, Step}
use Rattle.proxy_history.specs.OwnSteps.{host_steps}
use Rattle.proxy_history.specs.OwnStepsLaws.{SameOfHost}
use Rattle.proxy_history.specs.SeenSteps.{history_of_seen}
use Rattle.proxy_engines.specs.Turns.{own_steps}
use Rattle.ticket_gate.specs.Journal.{Meets}
use Rattle.proxy_core.specs.Recorded.{Origin, IsLegalJournal}
use Rattle.proxy_notices.specs.Places.{IsOf}
use Rattle.proxy_notices.specs.declared.place.Place.{Place}

-- no step in it is of a host of another place
abbrev pub KeepsToPlace : Place → History → Type 0
KeepsToPlace place H = (h : ℕ) → (IsOf place h → ⊥) → host_steps h H ≡ []

-- no step in it is of a host
abbrev pub HasNoHostStep : History → Type 0
HasNoHostStep H = (h : ℕ) → host_steps h H ≡ []

-- LAWS

-- The passes of a journal: each has a place among the same number of workers, or none. What a pass with a place did is of hosts of
-- that place alone, a pass with no place did nothing to a host, and no two passes have one place.
pub record AreAssigned (workers : ℕ) (index_of : ℕ → Option ℕ) (journal : List Step) : Type 0 where
  pub kept : (pass index : ℕ) → index_of pass ≡ Some index
      → KeepsToPlace (record { index = index; workers = workers }) (own_steps pass journal)
  pub idle : (pass : ℕ) → index_of pass ≡ None → HasNoHostStep (own_steps pass journal)
  pub apart : (p q index : ℕ) → index_of p ≡ Some index → index_of q ≡ Some index → p ≡ q

-- no two passes made steps of one host
abbrev pub HostsHaveOnePass : List Step → Type 0
HostsHaveOnePass journal = (h p q : ℕ) → host_steps h (own_steps p journal) ≢ [] → host_steps h (own_steps q journal) ≢ [] → p ≡ q

-- Where passes are assigned each host has one pass, and the steps of this pass alone tell all of the host: its epoch, what was sent
-- to it, and what came from it.
pub record OnePassTellsAll (journal : List Step) : Type 0 where
  pub one : HostsHaveOnePass journal
  pub all : (h p : ℕ) → host_steps h (own_steps p journal) ≢ []
      → host_steps h (history_of_seen journal) ≡ host_steps h (own_steps p journal)
  pub tells : (h p : ℕ) → host_steps h (own_steps p journal) ≢ []
      → SameOfHost h (history_of_seen journal) (own_steps p journal)

-- so it is with any assigned journal
abbrev pub AssignedHostsHaveOnePass : Type 0
AssignedHostsHaveOnePass = (workers : ℕ) (index_of : ℕ → Option ℕ) (journal : List Step) → AreAssigned workers index_of journal
    → OnePassTellsAll journal

-- Two passes of one gate, as they meet, each of which kept to its place, and the places differ. Then of a host of which the one made
-- a step, as the longer of their journals shows, the other made none.
abbrev pub PassesShareNoHost : Type 0
PassesShareNoHost = (made : Origin) (n m workers i j : ℕ) (first second : List Step) (met : Meets (IsLegalJournal made) n first m second)
    → KeepsToPlace (record { index = i; workers = workers }) (own_steps n first)
    → KeepsToPlace (record { index = j; workers = workers }) (own_steps m second) → i ≢ j
    → (h : ℕ) → host_steps h (own_steps n met.longer) ≢ [] → host_steps h (own_steps m met.longer) ≡ []
