-- HMAC-MD5 (RFC 2104), under a key of 16 bytes.
use Rattle.std.specs.Prelude.{ℕ, List, ◌++◌, map, replicate, bit_xor}
use Rattle.md5.specs.Md5.{md5}

-- the key, with zeros up to a block of MD5, each byte changed by a mask
abbrev pub key_block : List ℕ → ℕ → List ℕ
key_block key mask = map (λ b. bit_xor b mask) (key ++ replicate 48 0)

-- the hash of a message under a key
abbrev pub hmac_md5 : List ℕ → List ℕ → List ℕ
hmac_md5 key message = md5 (key_block key 0x5C ++ md5 (key_block key 0x36 ++ message))
