use Rattle.std.proofs.Common.{rules}
use Rattle.stub_server.proofs.link.StubWriterWrite.write.Goals as goal

pub returns-in_ok-write-in-Some-clause-bound : goal.returns-in_ok-write-in-Some-clause-bound
returns-in_ok-write-in-Some-clause-bound c = search rules
