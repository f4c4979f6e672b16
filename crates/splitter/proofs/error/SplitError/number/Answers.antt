use Rattle.std.proofs.Common.{◌≡◌, refl}
use Rattle.splitter.specs.declared.error.SplitError.{SplitError}
use Rattle.splitter.specs.declared.error.SplitError.TheVariants.{NoMemory}
use Rattle.splitter.specs.Refusal.{number_of}
use Rattle.splitter.proofs.error.SplitError.number.Goals as goal

is_numbered : (e : SplitError) → 701 ≡ number_of e
is_numbered NoMemory = refl

pub returns : goal.returns
returns c = is_numbered c.args.self
