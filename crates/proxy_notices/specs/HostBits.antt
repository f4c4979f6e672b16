-- Hosts as bits of a number: bit h stands for host h.
use Rattle.std.specs.Prelude.{◌≡◌, ◌↔◌, ◌<◌, ℕ}
use Rattle.std.specs.Int.{bit_at}
use Rattle.proxy_notices.specs.Places.{IsOf}
use Rattle.proxy_notices.specs.declared.place.Place.{Place}

-- the bits of the hosts of the worker at this place
abbrev pub AreHostsOf : ℕ → Place → Type 0
AreHostsOf bits place = (host : ℕ) → host < 64 → (bit_at bits host ≡ 1) ↔ IsOf place host
