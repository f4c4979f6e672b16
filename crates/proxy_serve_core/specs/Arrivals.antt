-- When what a worker's poll reports had come.
use Rattle.std.specs.Prelude.{◌-◌, ℕ, nat_lt, if◌then◌else◌}
use Rattle.proxy_serve_core.specs.declared.arrivals.TheConstants.{WAITED_US}

-- The earliest moment at which what a poll reports may have come, where the poll before it returned at the first of these moments, and
-- it was called and returned at the others. One that waited reports what came as it returned; another reports what came while the
-- worker was busy.
abbrev pub earliest : ℕ → ℕ → ℕ → ℕ
earliest before called returned = if nat_lt (returned - called) WAITED_US then before else returned
