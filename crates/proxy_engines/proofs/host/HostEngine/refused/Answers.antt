use Rattle.proxy_engines.proofs.host.HostEngine.refused.Goals as goal

pub returns : goal.returns
returns g c = record { records = rw (← c.self.view_is) c.record_fault.ensures.records }
