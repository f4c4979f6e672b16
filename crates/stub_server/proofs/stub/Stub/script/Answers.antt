use Rattle.stub_server.proofs.stub.Stub.script.Goals as goal

pub returns-clause-script : goal.returns-clause-script
returns-clause-script c = c.new.ensures
