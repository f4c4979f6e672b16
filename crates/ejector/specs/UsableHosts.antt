-- Which hosts may be used.
use Rattle.std.specs.Prelude.{ℕ, Bool, ◌-◌, ◌*◌, ◌||◌, not, nat_lt}
use Rattle.ejector.specs.declared.settings.Rules.{Rules}
use Rattle.ejector.specs.State.{State, is_out, out_count}

-- too few hosts are available, so all are used
abbrev pub is_panic : Rules → State → Bool
is_panic R x = nat_lt (100 * (R.hosts - out_count x)) (R.settings.panic_percent * R.hosts)

-- whether a host may get parts
abbrev pub is_usable : Rules → State → ℕ → Bool
is_usable R x h = is_panic R x || not (is_out x h)
