-- A key's tag and its point.
use Rattle.std.specs.Prelude.{◌≡◌, ◌≢◌, ℕ, Bool, ◌&&◌, nat_lt, ◌==◌, List, [], ◌∷◌, ◌++◌, length, Contains, if◌then◌else◌}
use Rattle.std.specs.List.{before_first, after_first, list_any}
use Rattle.md5.specs.Md5.{md5}
use Rattle.ketama.specs.Point.{point_in}

-- the bytes `{` and `}`
abbrev pub open_brace : ℕ
open_brace = 0x7B

-- the byte of `}`
abbrev pub close_brace : ℕ
close_brace = 0x7D

-- the bytes are those before, the byte, and those after, and this is the first such byte
pub record IsSplitAt (byte : ℕ) (bytes before after : List ℕ) : Type 0 where
  pub parts : bytes ≡ before ++ byte ∷ after
  pub first : ¬ Contains before byte

-- the key is `before{tag}after`, whose braces are the key's first `{` and the first `}` after it, and
-- the tag is not empty
pub record IsTagOf (key tag : List ℕ) : Type 0 where
  pub before : List ℕ
  pub after : List ℕ
  pub parts : key ≡ before ++ open_brace ∷ (tag ++ close_brace ∷ after)
  pub first_open : ¬ Contains before open_brace
  pub first_close : ¬ Contains tag close_brace
  pub nonempty : tag ≢ []

-- the key's tag, or the whole key if it has none
abbrev pub tag_or_key : List ℕ → List ℕ
tag_or_key key =
    let rest = after_first (λ b. b == open_brace) key in
    let tag = before_first (λ b. b == close_brace) rest in
    if list_any (λ b. b == close_brace) rest && nat_lt 0 (length tag) then tag else key

-- what is hashed of a key: its tag, where tags count and it has one, or else all of it
abbrev pub hashed_part : List ℕ → Bool → List ℕ
hashed_part key tags = if tags then tag_or_key key else key

-- the first point of the MD5 of some bytes
abbrev pub point_of_bytes : List ℕ → ℕ
point_of_bytes bytes = point_in (md5 bytes) 0

-- the key's point on the ring: of its tag, where tags count and it has one, or else of all of it
abbrev pub point_of : List ℕ → Bool → ℕ
point_of key tags = point_of_bytes (hashed_part key tags)
