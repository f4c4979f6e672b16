use Rattle.proxy_history.proofs.EjectionLemmas.{ejections_choose_hosts_alone as law}
use Rattle.proxy_history.proofs.laws.ejections_choose_hosts_alone.Goals as goal

pub returns : goal.returns
returns c = law
