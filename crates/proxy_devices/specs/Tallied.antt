-- The counts and logs of a reader or writer with counts.
use Rattle.std.specs.Prelude.{◌≡◌}
use Rattle.proxy_devices.specs.Device.{Counts}
use Rattle.proxy_devices.specs.declared.tally.Tallied.{Tallied}

-- the counts of a device
abbrev pub counts_of : {S : Type 0} → Tallied S → Counts
counts_of t = t.counter

-- both logs are as they were
pub record HasSameLogs {S : Type 0} (old new : Tallied S) : Type 0 where
  pub told : new.told ≡ old.told
  pub taken : new.taken ≡ old.taken
