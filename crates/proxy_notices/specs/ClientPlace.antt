-- The numbers that stand for clients.
use Rattle.std.specs.Prelude.{ℕ, ◌+◌, ◌*◌}

-- the number of the client with this key, of this worker
abbrev pub code_of : ℕ → ℕ → ℕ
code_of worker key = worker * 4096 + key + 1
