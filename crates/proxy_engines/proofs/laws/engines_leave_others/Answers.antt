use Rattle.proxy_engines.proofs.LeaveOthersLemmas.{clients_leave_others, hosts_leave_others}
use Rattle.proxy_engines.proofs.laws.engines_leave_others.Goals as goal

pub returns : goal.returns
returns c = record { clients = clients_leave_others; hosts = hosts_leave_others }
