-- The numbers of the errors.
use Rattle.std.specs.Prelude.{ℕ}
use Rattle.journal_core.specs.declared.error.JournalError.{JournalError}
use Rattle.journal_core.specs.declared.error.JournalError.TheVariants.{NoMemory, JournalFull}

-- the number by which an error is documented
abbrev pub number_of : JournalError → ℕ
number_of NoMemory = 901
number_of JournalFull = 902
