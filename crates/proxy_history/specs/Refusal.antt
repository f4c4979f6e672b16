-- The numbers of the refusals.
use Rattle.std.specs.Prelude.{ℕ}
use Rattle.proxy_history.specs.declared.refusal.Refusal.{Refusal}
use Rattle.proxy_history.specs.declared.refusal.Refusal.TheVariants as refusals

-- the number by which a refusal is documented
abbrev pub number_of : Refusal → ℕ
number_of refusals.NoMemory = 1001
number_of refusals.JournalFull = 1002
number_of refusals.NoSuchConnection = 1003
number_of refusals.Crowded = 1004
number_of refusals.NothingWaiting = 1005
number_of (refusals.Stale current) = 1006
number_of refusals.Unasked = 1007
number_of (refusals.NotReady left) = 1008
number_of refusals.Finishing = 1009
number_of refusals.TooManyConnections = 1010
number_of (refusals.BadSettings field) = 1011
number_of refusals.NoSuchHost = 1012
number_of refusals.NotPlain = 1013
