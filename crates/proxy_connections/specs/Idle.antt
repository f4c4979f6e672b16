-- Which clients are closed since they are idle.
use Rattle.std.specs.Prelude.{◌≡◌, ◌<◌, ℕ}
use Rattle.proxy_serve_core.specs.Idleness.{Lasts}
use Rattle.proxy_serve_core.specs.declared.idleness.Idleness.{Idleness}
use Rattle.proxy_connections.specs.declared.stage.SocketStage.{SocketStage}

-- a socket of this stage is served, and its client has been idle for this many milliseconds; 0 is never
pub record IsIdleFor (now ms : ℕ) (stage : SocketStage) (idle : Idleness) : Type 0 where
  pub some : 0 < ms
  pub served : stage ≡ SocketStage.Served
  pub lasts : Lasts now ms idle
