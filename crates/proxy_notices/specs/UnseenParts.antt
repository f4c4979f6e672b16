-- The parts of a host that its worker may not have seen.
use Rattle.std.specs.Prelude.{ℕ, ◌+◌, ◌-◌}
use Rattle.proxy_notices.specs.declared.unseen_parts.UnseenParts.{UnseenParts}

-- how many are unseen once so many wait: those that were, and those by which the host's queue has grown
abbrev pub grown_to : UnseenParts → ℕ → ℕ
grown_to parts waiting = parts.unseen + (waiting - parts.waiting)
