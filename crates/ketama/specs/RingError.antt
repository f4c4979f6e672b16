-- The numbers of errors.
use Rattle.std.specs.Prelude.{ℕ}
use Rattle.ketama.specs.declared.error.RingError.{RingError}
use Rattle.ketama.specs.declared.error.RingError.TheVariants.{NoMemory, SameName, TooManyHosts, BadWeights, BadName, BadPoint}

-- the number that stands for an error
abbrev pub number_of : RingError → ℕ
number_of NoMemory = 301
number_of SameName = 302
number_of TooManyHosts = 303
number_of BadWeights = 304
number_of BadName = 305
number_of BadPoint = 306
