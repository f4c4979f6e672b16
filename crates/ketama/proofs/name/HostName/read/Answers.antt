use Rattle.std.proofs.Common.{rules}
use Rattle.ketama.proofs.name.HostName.read.Goals as goal

pub returns-then-not-is_host_name-clause-bad_name : goal.returns-then-not-is_host_name-clause-bad_name
returns-then-not-is_host_name-clause-bad_name c = search rules

pub returns-then-not-is_host_name-clause-good : goal.returns-then-not-is_host_name-clause-good
returns-then-not-is_host_name-clause-good c = search rules
