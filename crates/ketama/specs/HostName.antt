-- Which bytes are a host's name.
use Rattle.std.specs.Prelude.{ℕ, ◌≤◌, List, length, All}

-- a host's name: 1 to 255 bytes, each a visible ASCII character, 0x21 to 0x7E
pub record IsHostName (bytes : List ℕ) : Type 0 where
  pub nonempty : 1 ≤ length bytes
  pub short : length bytes ≤ 255
  pub visible : All (λ b. (0x21 ≤ b) × (b ≤ 0x7E)) bytes
