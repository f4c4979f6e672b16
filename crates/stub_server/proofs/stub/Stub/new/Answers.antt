use Rattle.stub_server.proofs.stub.Stub.new.Goals as goal

pub returns-clause-map : goal.returns-clause-map
returns-clause-map c = c.new.ensures.items
