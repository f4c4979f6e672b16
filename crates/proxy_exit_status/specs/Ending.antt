-- How the program ends where it can't go on.
use Rattle.std.specs.Prelude.{ℕ}
use Rattle.proxy_exit_status.specs.declared.ending.Ending.{Ending}
use Rattle.proxy_exit_status.specs.declared.ending.Ending.TheVariants as endings

-- the program's exit status
abbrev pub status_of : Ending → ℕ
status_of endings.JournalFull = 4
status_of endings.Socket = 5
status_of endings.Memory = 6
status_of endings.Spent = 7
