-- What a reader counts that pauses before each read.
use Rattle.std.specs.Prelude.{◌+◌, ◌-◌, ◌^◌, min, ℕ}
use Rattle.proxy_devices.specs.Device.{Counts, ReadState}

-- the counts of the reader within, and so many pauses
abbrev pub with_pauses : ℕ → Counts → Counts
with_pauses n counts = record { failed = counts.failed; paused = min (counts.paused + n) (2 ^ 64 - 1) }

-- the reader within, and so many pauses
abbrev pub announced : ℕ → ReadState → ReadState
announced n reader = record reader { counts = with_pauses n reader.counts }
