use Rattle.proxy_engines.proofs.KeepsLemmas.{clients_keep_sockets, hosts_keep_links}
use Rattle.proxy_engines.proofs.laws.engines_keep_logs.Goals as goal

pub returns : goal.returns
returns c = record { clients = clients_keep_sockets; hosts = hosts_keep_links }
