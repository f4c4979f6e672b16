-- What may stand at one time, and how long a journal may get.
use Rattle.std.specs.Prelude.{◌+◌, ◌≤◌, ℕ, length}
use Rattle.proxy_history.specs.Setting.{Setting, max_connections, max_unwritten, max_waiting, max_steps, max_payload}
use Rattle.proxy_history.specs.History.{History, times, is_any_closing, openings, accepted_count, handed_count}
use Rattle.proxy_history.specs.Past.{past}
use Rattle.proxy_history.specs.Waiting.{waiting_parts}
use Rattle.proxy_history.specs.Payload.{payload}
use Rattle.proxy_history.specs.Legal.{IsLegal}

-- What stands at one time is within its limit.
pub record IsWithinLimits (S : Setting) (H : History) : Type 0 where
  -- no connection was closed that wasn't opened, and no more are open than may be
  pub were_opened : times is_any_closing H ≤ openings H
  pub few_are_open : openings H ≤ times is_any_closing H + max_connections
  -- of each connection no reply was handed out to a command that wasn't accepted, and no more are unwritten than may be
  pub were_accepted : (c : ℕ) → handed_count c H ≤ accepted_count c H
  pub few_are_unwritten : (c : ℕ) → accepted_count c H ≤ handed_count c H + max_unwritten
  -- for each host no more parts wait than may
  pub few_wait : (h : ℕ) → length (waiting_parts h (past S H)) ≤ max_waiting
  -- and the journal has its size
  pub few_steps : length H ≤ max_steps
  pub few_bytes : payload H ≤ max_payload

-- a legal history keeps the limits, and so does each of its beginnings
abbrev pub LimitsHold : Type 0
LimitsHold = (S : Setting) (H : History) → IsLegal S H → IsWithinLimits S H
