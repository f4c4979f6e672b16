-- The numbers of the refusals.
use Rattle.std.specs.Prelude.{ℕ}
use Rattle.ejector.specs.declared.error.EjectError.{EjectError}
use Rattle.ejector.specs.declared.error.EjectError.TheVariants.{NoMemory, BadSettings}

-- the number of an error
abbrev pub number_of : EjectError → ℕ
number_of NoMemory = 501
number_of (BadSettings field) = 502
