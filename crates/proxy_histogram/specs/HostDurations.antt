-- The durations of hosts, by the number of the host.
use Rattle.std.specs.Prelude.{ℕ, List, [], ◌++◌, get_or, replicate}
use Rattle.proxy_histogram.specs.Values.{IsOf}
use Rattle.proxy_histogram.specs.declared.histogram.Histogram.{Histogram}

-- no durations
abbrev pub no_durations : Histogram
no_durations = record { at_most = replicate 18 0; total = 0; sum_us = 0 }

-- the durations of the host with this number
abbrev pub durations_at : List Histogram → ℕ → Histogram
durations_at hosts host = get_or hosts host no_durations

-- the durations with those of another histogram besides
abbrev pub AddsTo : Histogram → Histogram → Histogram → Type 0
AddsTo old more new = (mine others : List ℕ) → IsOf mine old → IsOf others more → IsOf (mine ++ others) new
