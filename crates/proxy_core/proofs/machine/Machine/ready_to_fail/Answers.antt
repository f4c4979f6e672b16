use Rattle.proxy_core.proofs.machine.Machine.ready_to_fail.Goals as goal

pub returns-in-Ok-clause-refused : goal.returns-in-Ok-clause-refused
returns-in-Ok-clause-refused c = tt

pub returns-in-Err-clause-lost : goal.returns-in-Err-clause-lost
returns-in-Err-clause-lost c = tt

pub returns-in-Err-clause-ready : goal.returns-in-Err-clause-ready
returns-in-Err-clause-ready c = tt

pub returns-then-epoch-current-clause-lost : goal.returns-then-epoch-current-clause-lost
returns-then-epoch-current-clause-lost c = tt

pub returns-then-epoch-current-clause-ready : goal.returns-then-epoch-current-clause-ready
returns-then-epoch-current-clause-ready c = tt

pub returns-then-host-len-clause-lost : goal.returns-then-host-len-clause-lost
returns-then-host-len-clause-lost c = tt

pub returns-then-host-len-clause-ready : goal.returns-then-host-len-clause-ready
returns-then-host-len-clause-ready c = tt
