use Rattle.proxy_core.proofs.machine.Machine.ready_to_take.Goals as goal

pub returns-in_default-clause-ready : goal.returns-in_default-clause-ready
returns-in_default-clause-ready c = tt

pub returns-then-host-len-clause-ready : goal.returns-then-host-len-clause-ready
returns-then-host-len-clause-ready c = tt

pub returns-in-Ok-clause-refused : goal.returns-in-Ok-clause-refused
returns-in-Ok-clause-refused c = tt

pub returns-in-Err-clause-ready : goal.returns-in-Err-clause-ready
returns-in-Err-clause-ready c = tt
