-- What is told of keys that come as lines.
use Rattle.std.specs.Prelude.{◌≡◌, ◌≢◌, ◌+◌, ◌-◌, ◌*◌, ◌^◌, ◌≤◌, min, ℕ, Bool, true, false, ◌⊎◌, ⊤, List, [], ◌∷◌, ◌++◌, length, All, Contains, if◌then◌else◌, Ok}
use Rattle.std.specs.List.{AllZip, concat, flat_map}
use Rattle.hex.specs.Hex.{decode_of}
use Rattle.limits.specs.declared.messages.TheConstants.{MAX_BULK}
use Rattle.key_owners.specs.Owners.{Owners, IsOwnerName}
use Rattle.key_owners.specs.declared.error.KeyFault.{KeyFault}

-- the byte that ends a line, and the tab
abbrev pub newline : ℕ
newline = 10

-- the byte between a key and its host
abbrev pub tab : ℕ
tab = 9

-- the text is these lines, each ended by a newline, and then the open line
pub record IsCut (text : List ℕ) (lines : List (List ℕ)) (open_line : List ℕ) : Type 0 where
  pub parts : text ≡ flat_map (λ line. line ++ newline ∷ []) lines ++ open_line
  pub ended : All (λ line. ¬ Contains line newline) lines
  pub rest : ¬ Contains open_line newline

-- the key that a line writes: in hexadecimal digits, or as it is
abbrev pub IsKeyOf : Bool → List ℕ → List ℕ → Type 0
IsKeyOf true line key = decode_of line ≡ Ok key
IsKeyOf false line key = line ≡ key

-- the text tells of a line: the line, a tab, the name of its key's owner, and a newline
pub record IsOwnerLine (owners : Owners) (is_hex : Bool) (line text : List ℕ) : Type 0 where
  pub key : List ℕ
  pub name : List ℕ
  pub written : IsKeyOf is_hex line key
  pub owner : IsOwnerName owners key name
  pub parts : text ≡ line ++ tab ∷ (name ++ newline ∷ [])

-- the text tells of these lines, in order
pub record AreOwnerLines (owners : Owners) (is_hex : Bool) (lines : List (List ℕ)) (text : List ℕ) : Type 0 where
  pub texts : List (List ℕ)
  pub each : AllZip (IsOwnerLine owners is_hex) lines texts
  pub parts : text ≡ concat texts

-- how a telling of owners stands: how keys are written, the line that isn't ended yet, and how many are, 2^64 - 1 standing
-- for that or more
pub record Telling : Type 0 where
  pub owners : Owners
  pub is_hex : Bool
  pub open_line : List ℕ
  pub ended : ℕ

-- bytes were taken in, and the text tells of each line that they ended
pub record TakesIn (old : Telling) (bytes : List ℕ) (new : Telling) (text : List ℕ) : Type 0 where
  pub lines : List (List ℕ)
  pub cut : IsCut (old.open_line ++ bytes) lines new.open_line
  pub told : AreOwnerLines old.owners old.is_hex lines text
  pub owners : new.owners ≡ old.owners
  pub is_hex : new.is_hex ≡ old.is_hex
  pub ended : new.ended ≡ min (old.ended + length lines) (2 ^ 64 - 1)

-- the longest line: of a key of `MAX_BULK` bytes
abbrev pub longest : Bool → ℕ
longest is_hex = if is_hex then 2 * MAX_BULK else MAX_BULK

-- the number of the open line
abbrev pub number_of : Telling → ℕ
number_of telling = min (telling.ended + 1) (2 ^ 64 - 1)

-- the open line, whose end is seen, writes no key
abbrev pub IsNoKey : Telling → Type 0
IsNoKey telling = (telling.is_hex ≡ true) × ((key : List ℕ) → decode_of telling.open_line ≢ Ok key)

-- why the bytes left can't be taken in: the open line is as long as it may be, and another byte of it comes; or it ends,
-- and writes no key
abbrev pub IsFaultAt : Telling → List ℕ → KeyFault → Type 0
IsFaultAt telling left KeyFault.NoMemory = ⊥
IsFaultAt telling left (KeyFault.TooLong line) =
    (line ≡ number_of telling) × (longest telling.is_hex ≤ length telling.open_line)
    × (byte : ℕ) × (rest : List ℕ) × (byte ≢ newline) × (left ≡ byte ∷ rest)
IsFaultAt telling left (KeyFault.NotHex line) =
    (line ≡ number_of telling) × IsNoKey telling × (rest : List ℕ) × (left ≡ newline ∷ rest)

-- some of the bytes were taken in, as above, and the fault is why the others weren't
pub record StopsAt (old : Telling) (bytes : List ℕ) (new : Telling) (text : List ℕ) (fault : KeyFault) : Type 0 where
  pub taken : List ℕ
  pub left : List ℕ
  pub parts : bytes ≡ taken ++ left
  pub takes : TakesIn old taken new text
  pub is_fault : IsFaultAt new left fault

-- for want of memory, or so
abbrev pub MemoryOr : KeyFault → Type 0 → Type 0
MemoryOr KeyFault.NoMemory P = ⊤
MemoryOr (KeyFault.TooLong line) P = P
MemoryOr (KeyFault.NotHex line) P = P

-- the text tells of the line that is still open at the end, where it has a byte
abbrev pub EndsWith : Telling → List ℕ → Type 0
EndsWith telling text =
    ((telling.open_line ≡ []) × (text ≡ []))
    ⊎ ((telling.open_line ≢ []) × IsOwnerLine telling.owners telling.is_hex telling.open_line text)

-- the open line writes no key
abbrev pub IsNoLastKey : Telling → KeyFault → Type 0
IsNoLastKey telling KeyFault.NoMemory = ⊤
IsNoLastKey telling (KeyFault.TooLong line) = ⊥
IsNoLastKey telling (KeyFault.NotHex line) = (line ≡ number_of telling) × IsNoKey telling

-- two pieces, one after the other, are taken in as one
abbrev pub PiecesJoin : Telling → Telling → Telling → List ℕ → List ℕ → List ℕ → List ℕ → Type 0
PiecesJoin a b c first second told more =
    TakesIn a first b told → TakesIn b second c more → TakesIn a (first ++ second) c (told ++ more)

-- the text tells of all lines of these bytes, the last one too
pub record TellsOfAll (start : Telling) (bytes text : List ℕ) : Type 0 where
  pub end : Telling
  pub told : List ℕ
  pub last : List ℕ
  pub takes : TakesIn start bytes end told
  pub ends : EndsWith end last
  pub parts : text ≡ told ++ last
