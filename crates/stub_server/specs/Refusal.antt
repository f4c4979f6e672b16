-- The numbers of the refusals.
use Rattle.std.specs.Prelude.{ℕ}
use Rattle.stub_server.specs.declared.error.StubError.{StubError}
use Rattle.stub_server.specs.declared.error.StubError.TheVariants as refusals

-- the number by which a refusal is documented
abbrev pub number_of : StubError → ℕ
number_of refusals.NoMemory = 1501
