use Rattle.std.proofs.Common.{arith, rules}
use Rattle.std.proofs.lemmas.Grind.{common_steps}
use Rattle.proxy_devices.proofs.faulty.Faulty.read_passed.Goals as goal

pub returns-clause-passes : goal.returns-clause-passes
returns-clause-passes g c = grind (arith, common_steps)

pub returns-clause-kept : goal.returns-clause-kept
returns-clause-kept g c = search rules
