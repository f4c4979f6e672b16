use Rattle.std.proofs.Common.{◌≡◌, refl}
use Rattle.stub_server.specs.declared.error.StubError.{StubError}
use Rattle.stub_server.specs.declared.error.StubError.TheVariants.{NoMemory}
use Rattle.stub_server.specs.Refusal.{number_of}
use Rattle.stub_server.proofs.error.StubError.number.Goals as goal

is_numbered : (e : StubError) → 1501 ≡ number_of e
is_numbered NoMemory = refl

pub returns : goal.returns
returns c = is_numbered c.args.self
