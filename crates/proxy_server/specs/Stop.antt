-- Why a server ended.
use Rattle.std.specs.Prelude.{Some, None}
use Rattle.proxy_exit_status.specs.declared.ending.Ending.{Ending}
use Rattle.proxy_exit_status.specs.declared.ending.Ending.TheVariants.{Socket}
use Rattle.proxy_server.specs.declared.stop.Failure.{Failure}
use Rattle.proxy_server.specs.declared.stop.Stop.{Stop}

-- for this ending, which says all
abbrev pub of_ending : Ending → Stop
of_ending ending = record { ending = ending; failure = None }

-- since this failed
abbrev pub of_failure : Failure → Stop
of_failure failure = record { ending = Socket; failure = Some failure }
