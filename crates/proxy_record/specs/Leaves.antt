-- How bytes stand: leaves.
use Rattle.std.specs.Prelude.{ℕ, Bool, List, [], ◌∷◌, ◌++◌, length, codes, decimal, if◌then◌else◌}
use Rattle.std.specs.List.{concat}
use Rattle.hex.specs.Hex.{encode_lower}
use Rattle.proxy_record.specs.Hashing.{hmac_md5}
use Rattle.proxy_record.specs.declared.payloads.Payloads.{Payloads}
use Rattle.proxy_record.specs.declared.payloads.Payloads.TheVariants.{Clear, Hashed}

-- two lower-case hexadecimal digits for each byte
abbrev pub hex : List ℕ → List ℕ
hex bytes = encode_lower bytes

-- the number of bytes, a colon, and the digits of their hash
abbrev pub hashed : List ℕ → List ℕ → List ℕ
hashed key bytes = concat (decimal (length bytes) ∷ codes ":" ∷ []) ++ hex (hmac_md5 key bytes)

-- the leaf of bytes that aren't in the clear where payloads are hashed
abbrev pub leaf : Payloads → List ℕ → List ℕ
leaf Clear bytes = hex bytes
leaf (Hashed key tags) bytes = hashed key bytes

-- the leaf of bytes of which it is known whether they are in the clear there
abbrev pub leaf_if : Bool → Payloads → List ℕ → List ℕ
leaf_if is_clear payloads bytes = if is_clear then hex bytes else leaf payloads bytes
