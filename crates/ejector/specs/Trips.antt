-- Which bad results are trips, and which trips put a host aside.
use Rattle.std.specs.Prelude.{ℕ, Bool, ◌==◌, ◌+◌, ◌*◌, ◌/◌, ◌||◌, ◌&&◌, not, max, nat_lt}
use Rattle.ejector.specs.declared.settings.Rules.{Rules}
use Rattle.ejector.specs.State.{State, host_of, is_out}

-- where so many hosts are out, whether one more may be ejected
abbrev pub may_eject : Rules → ℕ → Bool
may_eject R out = (out == 0) || nat_lt (100 * out) (R.settings.max_percent * R.hosts)

-- the limit: max_percent of the hosts, rounded up, but at least one
abbrev pub most_out : Rules → ℕ
most_out R = max 1 ((R.settings.max_percent * R.hosts + 99) / 100)

-- a bad result is a trip if the host isn't out, the monitor is on, and the streak comes to `consecutive` with it
abbrev pub is_trip : Rules → State → ℕ → Bool
is_trip R x h = nat_lt h R.hosts && not (is_out x h) && nat_lt 0 R.settings.consecutive && ((host_of x h).streak + 1 == R.settings.consecutive)
