use Rattle.std.proofs.Common.{refl}
use Rattle.stub_server.proofs.link.StubLink.new.Goals as goal

pub returns : goal.returns
returns c = refl
