-- Sets of keys, as rows of bits.
use Rattle.std.specs.Prelude.{◌≡◌, ◌≢◌, ◌⊎◌, ◌↔◌, ◌≤◌, ◌<◌, ◌+◌, ◌*◌, ◌/◌, ◌%◌, ℕ, List, length, slice_index}
use Rattle.std.specs.Int.{bit_at}

-- the key is in the set: its bit is set, where each word has 64 and the words behind the last are 0
abbrev pub Has : List ℕ → ℕ → Type 0
Has set key = bit_at (slice_index set (key / 64)) (key % 64) ≡ 1

-- keys below this number have room
abbrev pub capacity_of : List ℕ → ℕ
capacity_of set = 64 * length set

-- the least multiple of 64 that is no less than this number
abbrev pub whole_words : ℕ → ℕ
whole_words capacity = 64 * ((capacity + 63) / 64)

-- the same keys
abbrev pub SameKeys : List ℕ → List ℕ → Type 0
SameKeys old new = (key : ℕ) → Has new key ↔ Has old key

-- the old keys, and this one
abbrev pub AddsKey : ℕ → List ℕ → List ℕ → Type 0
AddsKey key old new = (other : ℕ) → Has new other ↔ (Has old other ⊎ (other ≡ key))

-- the old keys, and this one if it has room
pub record AddsKeyIfItFits (key : ℕ) (old new : List ℕ) : Type 0 where
  pub adds : key < capacity_of old → AddsKey key old new
  pub past : capacity_of old ≤ key → new ≡ old

-- the old keys, and all below this number that have room
abbrev pub AddsKeysBelow : ℕ → List ℕ → List ℕ → Type 0
AddsKeysBelow count old new = (key : ℕ) → Has new key ↔ (Has old key ⊎ ((key < count) × (key < capacity_of old)))

-- the old keys, and those whose bits are set in a word of 64 keys
abbrev pub AddsKeysOfWord : ℕ → ℕ → List ℕ → List ℕ → Type 0
AddsKeysOfWord index bits old new = (key : ℕ) → Has new key ↔ (Has old key ⊎ ((key / 64 ≡ index) × (bit_at bits (key % 64) ≡ 1)))

-- the old keys, and those of the word if it has room
pub record AddsWordIfItFits (index bits : ℕ) (old new : List ℕ) : Type 0 where
  pub adds : index < length old → AddsKeysOfWord index bits old new
  pub past : length old ≤ index → new ≡ old

-- the old keys without this one
abbrev pub DropsKey : ℕ → List ℕ → List ℕ → Type 0
DropsKey key old new = (other : ℕ) → Has new other ↔ (Has old other × (other ≢ key))

-- the keys of two sets
abbrev pub JoinsKeys : List ℕ → List ℕ → List ℕ → Type 0
JoinsKeys one two both = (key : ℕ) → Has both key ↔ (Has one key ⊎ Has two key)

-- no key is at or after this number
abbrev pub HasNone : List ℕ → ℕ → Type 0
HasNone set from = (key : ℕ) → from ≤ key → ¬ (Has set key)

-- the least key at or after a number
pub record IsNext (set : List ℕ) (from key : ℕ) : Type 0 where
  pub reached : from ≤ key
  pub has : Has set key
  pub least : (other : ℕ) → from ≤ other → other < key → ¬ (Has set other)
