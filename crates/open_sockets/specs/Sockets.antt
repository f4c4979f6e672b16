-- The sockets of clients of one run: how many are open, and when the serving is done.
use Rattle.std.specs.Prelude.{◌≡◌, ◌≢◌, ◌≤◌, ◌<◌, ◌+◌, ◌-◌, ◌^◌, ◌⊎◌, true, false, ℕ}
use Rattle.limits.specs.declared.queues.TheConstants.{MAX_SOCKETS}
use Rattle.open_sockets.specs.declared.sockets.Sockets.{Sockets}

-- A word says how many sockets are open, and from 2 ^ 32 on that no further one is taken.
abbrev pub IsWord : ℕ → Sockets → Type 0
IsWord word s = ((s.is_draining ≡ false) × (word ≡ s.count) × (s.count < 2 ^ 32))
    ⊎ ((s.is_draining ≡ true) × (word ≡ 2 ^ 32 + s.count))

-- a further socket is taken: the serving doesn't drain, and fewer are open than may be
abbrev pub MayOpen : Sockets → Type 0
MayOpen s = (s.is_draining ≡ false) × (s.count < MAX_SOCKETS)

-- one socket fewer is open
abbrev pub one_less_open : Sockets → Sockets
one_less_open s = record s { count = s.count - 1 }

-- no further socket is taken from here on
abbrev pub draining : Sockets → Sockets
draining s = record s { is_draining = true }

-- nothing is left to wait for: the serving drains, and no socket is open
abbrev pub AreDone : Sockets → Type 0
AreDone s = (s.is_draining ≡ true) × (s.count ≡ 0)

-- with one connection more, as many have closed as are waited for; 0 is never
abbrev pub IsLastClosing : ℕ → ℕ → Type 0
IsLastClosing most before = (most ≢ 0) × (most ≤ before + 1)
