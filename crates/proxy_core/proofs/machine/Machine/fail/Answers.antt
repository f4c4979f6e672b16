use Rattle.proxy_core.proofs.machine.Machine.fail.Goals as goal

pub returns-clause-refused : goal.returns-clause-refused
returns-clause-refused c = tt
