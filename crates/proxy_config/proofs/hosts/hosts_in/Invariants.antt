use Rattle.std.proofs.Common.{take}
use Rattle.std.specs.List.{AllZip}
use Rattle.proxy_config.specs.Table.{IsHost, host_data}
use Rattle.proxy_config.proofs.EntryLemmas.{Gives}
use Rattle.proxy_config.proofs.hosts.hosts_in.Given as goal

-- the hosts so far are those of the entries so far
abbrev pub invariant-loop-entry : goal.invariant-loop-entry
invariant-loop-entry l = AllZip (Gives host_data IsHost) (take l.entry-index l.entries) l.hosts.items
