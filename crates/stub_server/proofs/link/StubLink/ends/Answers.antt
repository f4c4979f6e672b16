use Rattle.std.proofs.Common.{refl}
use Rattle.stub_server.proofs.link.StubLink.ends.Goals as goal

pub returns-in-None : goal.returns-in-None
returns-in-None c = record { err = (refl, refl) }
