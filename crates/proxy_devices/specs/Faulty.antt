-- What a reader or a writer counts that fails once so many bytes have passed.
use Rattle.std.specs.Prelude.{◌+◌, ◌-◌, ◌^◌, min, ℕ}
use Rattle.proxy_devices.specs.Device.{Counts}
use Rattle.proxy_devices.specs.declared.tally.IoOutcome.{IoOutcome}

-- the counts of the device that it passes bytes of, and its own failures
abbrev pub with_failures : ℕ → Counts → Counts
with_failures n counts = record { failed = min (counts.failed + n) (2 ^ 64 - 1); paused = counts.paused }

-- how many bytes a call moved
abbrev pub moved_count : IoOutcome → ℕ
moved_count (IoOutcome.Moved n) = n
moved_count told = 0
