-- Whether the client at a key is idle.
use Rattle.std.proofs.Common.{◌≡◌, ◌↔◌, ℕ, Bool, subst}
use Rattle.std.specs.Prelude.{IsTrue}
use Rattle.slab.specs.Slab.{Slab}
use Rattle.proxy_connections.specs.Idle.{IsIdleFor}
use Rattle.proxy_connections.specs.WorkerConnections.{HasIdle, IsAt}
use Rattle.proxy_connections.specs.declared.client_connection.ClientConnection.{ClientConnection}

module _ (now ms key : ℕ) (clients : Slab ClientConnection) (client : ClientConnection) (is : IsAt clients key client) (told : Bool) where
  pub has_idle : IsTrue told ↔ IsIdleFor now ms client.stage client.idle → IsTrue told ↔ HasIdle now ms clients key
  has_idle same = (
    λ yes. (client, is, same.0 yes),
    λ h.
        let (one, at, idle) = h in
        let is_one : one ≡ client = cc in
        same.1 (subst (λ (c : ClientConnection). IsIdleFor now ms c.stage c.idle) is_one idle),
  )
