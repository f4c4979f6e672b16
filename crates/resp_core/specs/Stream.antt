-- A stream of bytes as the texts of values, one after the other, and what is refused in it.
use Rattle.std.specs.Prelude.{◌≡◌, ◌⊎◌, ℕ, ◌+◌, ◌-◌, ◌^◌, min, ◌≤◌, List, [], ◌∷◌, ◌++◌, length}
use Rattle.resp_core.specs.Tree.{Tree}
use Rattle.resp_core.specs.Grammar.{IsText, max_text, max_depth}
use Rattle.resp_core.specs.Refusals.{IsTold}

-- the bytes are the texts of these values, each of at most so many bytes, and then these bytes
abbrev pub Splits : ℕ → List ℕ → List Tree → List ℕ → Type 0
Splits most b [] rest = b ≡ rest
Splits most b (t ∷ ts) rest = (x y : List ℕ) × (b ≡ x ++ y) × IsText most max_depth x t × (length x ≤ max_text) × Splits most y ts rest

-- a whole value, of at most so many bytes, stands at the front
abbrev pub HasWhole : ℕ → List ℕ → Type 0
HasWhole most b = (t : Tree) × (x y : List ℕ) × (b ≡ x ++ y) × IsText most max_depth x t × (length x ≤ max_text)

-- the values of a stream: those whose texts are its longest such beginning
pub record AreValues (most : ℕ) (b : List ℕ) (ts : List Tree) (rest : List ℕ) : Type 0 where
  pub splits : Splits most b ts rest
  pub longest : (others : List Tree) (left : List ℕ) → Splits most b others left → length rest ≤ length left

-- some text begins with these bytes
abbrev pub Begins : ℕ → List ℕ → Type 0
Begins most b = (more : List ℕ) × (t : Tree) × IsText most max_depth (b ++ more) t

-- The byte at this place of an unfinished value is refused: the bytes before it begin a text, and with it they begin none,
-- or there are too many.
pub record IsRefusedAt (most : ℕ) (rest : List ℕ) (place : ℕ) : Type 0 where
  pub before : List ℕ
  pub byte : ℕ
  pub after : List ℕ
  pub split : rest ≡ before ++ byte ∷ after
  pub place_is : length before ≡ place
  pub fits : Begins most before
  pub few : length before ≤ max_text
  pub fails : (length before ≡ max_text) ⊎ (Begins most (before ++ byte ∷ []) → ⊥)

-- an offset in the stream, as it is told: the greatest number of 64 bits stands for any past it
abbrev pub told_offset : ℕ → ℕ
told_offset n = min n (2 ^ 64 - 1)

-- behind these values of the stream the byte at this offset is refused, by this number
pub record HasRefusal (most : ℕ) (b : List ℕ) (ts : List Tree) (offset number : ℕ) : Type 0 where
  pub rest : List ℕ
  pub values : AreValues most b ts rest
  pub place : ℕ
  pub refused : IsRefusedAt most rest place
  pub told : IsTold most refused.before refused.byte number
  pub offset_is : offset ≡ told_offset (length b - length rest + place)

-- these are the values of the stream, and no byte of it is refused
pub record HasNoRefusal (most : ℕ) (b : List ℕ) (ts : List Tree) : Type 0 where
  pub rest : List ℕ
  pub values : AreValues most b ts rest
  pub none : (place : ℕ) → IsRefusedAt most rest place → ⊥
