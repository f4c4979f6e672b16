-- The parts of commands, and what a history determines.
use Rattle.std.specs.Prelude.{ℕ, Bool, false, ◌==◌, ◌&&◌, Option, Some, None, List, is_none}
use Rattle.resp_core.specs.Tree.{Tree}
use Rattle.ejector.specs.declared.mark.Mark.{Mark}
use Rattle.proxy_history.specs.History.{History}

-- A part of a command, as it was placed at its arrival: its host and that host's epoch, and the value that it got at once,
-- if it got one.
pub record Part : Type 0 where
  pub conn : ℕ
  pub command : ℕ
  pub number : ℕ
  pub text : List ℕ
  pub host : Option ℕ
  pub epoch : ℕ
  pub local : Option Tree

-- A history with what it determines.
pub record Past : Type 0 where
  pub steps : History
  -- the parts of all commands, in order of arrival
  pub parts : List Part
  -- those that were sent, in order
  pub sent : List Part
  -- good and bad results and sweeps, the newest first
  pub marks : List Mark

-- whether two parts are the same part of the same command
abbrev pub is_same : Part → Part → Bool
is_same p q = (p.conn == q.conn) && (p.command == q.command) && (p.number == q.number)

-- whether a part's host is this one
abbrev pub is_host : ℕ → Option ℕ → Bool
is_host h None = false
is_host h (Some host) = host == h

-- whether the part belongs to the pipe of the host in the epoch
abbrev pub is_of : ℕ → ℕ → Part → Bool
is_of h e p = is_host h p.host && (p.epoch == e) && is_none p.local
