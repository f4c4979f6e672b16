-- The payload of a bulk string, as it is held.
use Rattle.std.specs.Prelude.{◌≡◌, ◌+◌, ◌-◌, ◌≤◌, ℕ, List, length, slice_range}
use Rattle.resp_core.specs.Tree.{bulk}
use Rattle.resp_core.specs.Text.{text}
use Rattle.resp_core.specs.declared.payload.Held.{Held}
use Rattle.resp_core.specs.declared.payload.Held.TheVariants.{Alone, InText}

-- what stands in a text behind a head of so many bytes, without the line end
abbrev pub behind_head : ℕ → List ℕ → List ℕ
behind_head head b = slice_range b head (length b - 2)

-- the payload
abbrev pub payload_in : Held → List ℕ
payload_in (Alone s) = s
payload_in (InText head b) = behind_head head b

-- a text that a payload lies in is the one spelling of its bulk string
abbrev pub IsHeld : Held → Type 0
IsHeld (Alone s) = Unit {0}
IsHeld (InText head b) = (head + 2 ≤ length b) × (b ≡ text (bulk (behind_head head b)))
