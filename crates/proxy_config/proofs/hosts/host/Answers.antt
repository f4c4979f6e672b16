use Rattle.std.proofs.Common.{rules}
use Rattle.ketama.specs.HostName.{IsHostName}
use Rattle.proxy_config.proofs.HostNameLemmas.{is_host_name_stable}
use Rattle.proxy_config.proofs.hosts.host.Goals as goal

pub returns-in-Err-NoMemory-clause-memory : goal.returns-in-Err-NoMemory-clause-memory
returns-in-Err-NoMemory-clause-memory c = λ _.
    let named : IsHostName c.as_bytes.result.now =
    is_host_name_stable c.as_bytes.result.now (λ bad. let is_bad = c.in-Err-NoMemory.ensures.bad_name.1 bad in absurd (cc)) in
    (record { name = c.in-Some.text.now; address = c.in-Ok.address }, search rules, record { name = rw (← c.as_bytes.ensures.value) named; address = search rules })

pub returns-in-Err-clause-memory : goal.returns-in-Err-clause-memory
returns-in-Err-clause-memory c = λ is. absurd (cc)
