use Rattle.proxy_engines.proofs.client.ClientEngine.into_writer.Goals as goal

pub returns : goal.returns
returns g c = rw (← c.self.view_is) (record { held = c.into_writer.ensures.held; taken = c.into_writer.ensures.taken; passed = c.into_writer.ensures.passed })
