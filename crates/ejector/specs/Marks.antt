-- Marks: what an ejector is told. A list of marks has the newest first, so that what stands behind a mark came before it.
use Rattle.std.specs.Prelude.{ℕ, ◌<◌, Bool, true, false, ◌==◌, ◌||◌}
use Rattle.ejector.specs.declared.mark.Mark.{Mark}
use Rattle.ejector.specs.declared.mark.Mark.TheVariants.{Good, Bad, Sweep}

-- the moment that a mark tells
abbrev pub moment : Mark → ℕ
moment (Good host t) = t
moment (Bad host t) = t
moment (Sweep t) = t

-- whether it is a good result of a host, a bad one, or either
abbrev pub is_good : ℕ → Mark → Bool
is_good h (Good host t) = host == h
is_good h (Bad host t) = false
is_good h (Sweep t) = false

-- whether a mark is a bad result of the host
abbrev pub is_bad : ℕ → Mark → Bool
is_bad h (Good host t) = false
is_bad h (Bad host t) = host == h
is_bad h (Sweep t) = false

-- whether a mark is a result of the host
abbrev pub is_result : ℕ → Mark → Bool
is_result h m = is_good h m || is_bad h m

-- whether a mark is a sweep
abbrev pub is_sweep : Mark → Bool
is_sweep (Good host t) = false
is_sweep (Bad host t) = false
is_sweep (Sweep t) = true

-- whether the mark's host is one of so many
abbrev pub IsAmong : ℕ → Mark → Type 0
IsAmong n (Good host t) = host < n
IsAmong n (Bad host t) = host < n
IsAmong n (Sweep t) = Unit {0}
