use Rattle.proxy_core.proofs.machine.Machine.ready_to_arrive.Goals as goal

pub returns-in-Ok-clause-refused : goal.returns-in-Ok-clause-refused
returns-in-Ok-clause-refused c = tt

pub returns-in-Err-clause-ready : goal.returns-in-Err-clause-ready
returns-in-Err-clause-ready c = tt

pub returns-in-Err-clause-text : goal.returns-in-Err-clause-text
returns-in-Err-clause-text c = tt

pub returns-in-Err-clause-plan : goal.returns-in-Err-clause-plan
returns-in-Err-clause-plan c = tt

pub returns-in_default-clause-ready : goal.returns-in_default-clause-ready
returns-in_default-clause-ready c = tt

pub returns-in_default-clause-text : goal.returns-in_default-clause-text
returns-in_default-clause-text c = tt

pub returns-in_default-clause-plan : goal.returns-in_default-clause-plan
returns-in_default-clause-plan c = tt

pub returns-then-connection-clause-ready : goal.returns-then-connection-clause-ready
returns-then-connection-clause-ready c = tt

pub returns-then-connection-clause-text : goal.returns-then-connection-clause-text
returns-then-connection-clause-text c = tt

pub returns-then-connection-clause-plan : goal.returns-then-connection-clause-plan
returns-then-connection-clause-plan c = tt
