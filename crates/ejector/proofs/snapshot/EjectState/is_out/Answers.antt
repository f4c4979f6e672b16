use Rattle.std.proofs.Common.{List, ap}
use Rattle.ejector.specs.declared.host.HostState.{HostState}
use Rattle.ejector.specs.State.{is_out}
use Rattle.ejector.proofs.snapshot.EjectState.is_out.Goals as goal

pub returns : goal.returns
returns c = ap (λ (hosts : List HostState). is_out (record { clock = c.args.self.now.state.clock; hosts = hosts }) c.args.host) c.hosts.ensures
