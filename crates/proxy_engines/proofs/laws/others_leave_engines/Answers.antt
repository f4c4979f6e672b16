use Rattle.proxy_engines.proofs.ClientLemmas.{others_leave_clients}
use Rattle.proxy_engines.proofs.LeaveOthersLemmas.{others_leave_hosts}
use Rattle.proxy_engines.proofs.laws.others_leave_engines.Goals as goal

pub returns : goal.returns
returns c = record { clients = others_leave_clients; hosts = others_leave_hosts }
