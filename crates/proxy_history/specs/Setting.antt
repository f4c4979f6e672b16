-- What stays the same as long as a proxy runs: its ring, and the rules of its outlier detection with the state that it found.
use Rattle.std.specs.Prelude.{ℕ, List}
use Rattle.limits.specs.declared.queues.TheConstants.{MAX_WAITING}
use Rattle.limits.specs.declared.queues.TheConstants.{MAX_COMMANDS}
use Rattle.limits.specs.declared.journals.TheConstants.{MAX_STEPS, MAX_BYTES}
use Rattle.ketama.specs.Continuum.{Continuum}
use Rattle.ketama.specs.Key.{point_of}
use Rattle.ejector.specs.declared.settings.Rules.{Rules}
use Rattle.ejector.specs.State.{State}
use Rattle.limits.specs.declared.queues.TheConstants.{MAX_CONNECTIONS}

-- the ring, the rules of outlier detection, and the state that it began with
pub record Setting : Type 0 where
  pub ring : Continuum
  pub rules : Rules
  -- the ejection state before the first step
  pub opening : State

-- how many hosts there are
abbrev pub hosts : Setting → ℕ
hosts S = S.rules.hosts

-- the point of a key on the ring
abbrev pub point_for : Setting → List ℕ → ℕ
point_for S key = point_of key S.rules.settings.tags

-- the most connections that may be open at one time
abbrev pub max_connections : ℕ
max_connections = MAX_CONNECTIONS

-- the most commands of a connection that may be accepted and not handed out
abbrev pub max_unwritten : ℕ
max_unwritten = MAX_COMMANDS

-- the most parts that may wait for a host
abbrev pub max_waiting : ℕ
max_waiting = MAX_WAITING

-- the most steps, and the most bytes of payload that they may keep
abbrev pub max_steps : ℕ
max_steps = MAX_STEPS

-- the most bytes of a history
abbrev pub max_payload : ℕ
max_payload = MAX_BYTES
