-- The number of a refusal.
use Rattle.std.specs.Prelude.{ℕ}
use Rattle.splitter.specs.declared.error.SplitError.{SplitError}
use Rattle.splitter.specs.declared.error.SplitError.TheVariants.{NoMemory}

-- the number of an error
abbrev pub number_of : SplitError → ℕ
number_of NoMemory = 701
