-- What the core keeps is what its history determines.
use Rattle.std.specs.Prelude.{ℕ, Option, List}
use Rattle.ejector.specs.State.{State}
use Rattle.ejector.specs.Ejection.{state}
use Rattle.proxy_history.specs.Setting.{Setting}
use Rattle.proxy_history.specs.History.{History, times, is_any_closing}
use Rattle.proxy_history.specs.Past.{past}
use Rattle.proxy_history.specs.Payload.{payload}
use Rattle.proxy_core.specs.Connections.{connections_of}
use Rattle.proxy_core.specs.Pipelines.{PipelineState, pipelines_of}
use Rattle.proxy_core.specs.declared.state.connection.Connection.{Connection}

-- what the core keeps beside its steps: their payload in bytes, the connections, how many were closed, the pipelines to its
-- hosts, and what outlier detection knows of the hosts
pub record Memory : Type 0 where
  pub bytes : ℕ
  pub connections : List (Option Connection)
  pub closed : ℕ
  pub pipelines : List PipelineState
  pub hosts : State

-- what is kept, by the history
abbrev pub memory_of : Setting → History → Memory
memory_of S H = let x = past S H in record {
  bytes = payload H;
  connections = connections_of x;
  closed = times is_any_closing H;
  pipelines = pipelines_of S x;
  hosts = state S.rules S.opening x.marks;
}
