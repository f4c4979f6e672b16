-- The values that settings have.
use Rattle.std.specs.Prelude.{ℕ, Bool, List}
use Rattle.std.specs.declared.net.socket_addr.SocketAddr.{SocketAddr}
use Rattle.proxy_config.specs.declared.config.Config.{Config}
use Rattle.proxy_config.specs.declared.config.Host.{Host}

-- a value for each key of the table
pub record Values : Type 0 where
  pub listen : SocketAddr
  pub hosts : List Host
  pub weights : List ℕ
  pub workers : ℕ
  pub reply_ms : ℕ
  pub tags : Bool
  pub interval_ms : ℕ
  pub base_ms : ℕ
  pub max_ms : ℕ
  pub max_percent : ℕ
  pub consecutive : ℕ
  pub success_hosts : ℕ
  pub request_volume : ℕ
  pub factor : ℕ
  pub panic_percent : ℕ

-- the values of a `Config`
abbrev pub values_of : Config → Values
values_of c = record {
  listen = c.listen;
  hosts = c.hosts.items;
  weights = c.weights.items;
  workers = c.workers;
  reply_ms = c.reply_ms;
  tags = c.core.tags;
  interval_ms = c.core.interval_ms;
  base_ms = c.core.base_ms;
  max_ms = c.core.max_ms;
  max_percent = c.core.max_percent;
  consecutive = c.core.consecutive;
  success_hosts = c.core.success_hosts;
  request_volume = c.core.request_volume;
  factor = c.core.factor;
  panic_percent = c.core.panic_percent;
}
