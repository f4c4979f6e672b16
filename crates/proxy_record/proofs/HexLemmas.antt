-- Hexadecimal digits, byte by byte.
use Rattle.std.proofs.Common.{◌≡◌, ℕ, ◌+◌, ◌<◌, ◌≤◌, ◌/◌, ◌%◌, List, [], ◌∷◌, ◌++◌, length, get_or, drop, append_assoc}
use Rattle.std.specs.Prelude.{slice_index}
use Rattle.std.proofs.lemmas.List.{at_drop_more, at_drop_all}
use Rattle.hex.specs.Hex.{encode_with, lower_digits}
use Rattle.proxy_record.specs.Leaves.{hex}

-- the first two digits of what is left
pub hex_more : (bytes : List ℕ) (i : ℕ) → i < length bytes
    → hex (drop i bytes) ≡ slice_index lower_digits (get_or bytes i 0 / 16) ∷ slice_index lower_digits (get_or bytes i 0 % 16) ∷ hex (drop (i + 1) bytes)
unfolding encode_with
hex_more bytes i within = at_drop_more hex bytes i 0 within

-- no digits are left
pub hex_none : (bytes : List ℕ) (i : ℕ) → length bytes ≤ i → hex (drop i bytes) ≡ []
unfolding encode_with
hex_none bytes i h = at_drop_all hex bytes i h

-- two bytes behind a text
pub two_bytes : (line rest all : List ℕ) (x y : ℕ) → line ++ (x ∷ y ∷ rest) ≡ all → ((line ++ x ∷ []) ++ y ∷ []) ++ rest ≡ all
two_bytes line rest all x y e = simp append_assoc e
