use Rattle.stub_server.proofs.link.StubReaderRead.read.Goals as goal

pub returns-in_default-clause-kinds : goal.returns-in_default-clause-kinds
returns-in_default-clause-kinds c = c.from.ensures
