use Rattle.proxy_core.proofs.machine.Machine.ready_to_hand.Goals as goal

pub returns-in_default-clause-ready : goal.returns-in_default-clause-ready
returns-in_default-clause-ready c = tt

pub returns-in_default-2-clause-ready : goal.returns-in_default-2-clause-ready
returns-in_default-2-clause-ready c = tt
