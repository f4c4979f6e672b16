-- By which number a refused byte is told: by the place where it stands, and where two fit, by the lower.
use Rattle.std.specs.Prelude.{◌≡◌, ◌≢◌, ◌⊎◌, ◌^◌, ℕ, zero, suc, ◌-◌, ◌<◌, ◌≤◌, List, [], ◌∷◌, ◌++◌, length}
use Rattle.std.specs.List.{AllByRecursion}
use Rattle.resp_core.specs.Tree.{Trees, members}
use Rattle.resp_core.specs.Text.{line}
use Rattle.resp_core.specs.Grammar.{IsDigit, number_after, IsLength, max_bulk, max_line, AreTexts, max_text, max_depth}

-- in the length of a bulk string or an array, behind these bytes of it
pub data RefusedInLength (limit : ℕ) (came : List ℕ) (byte : ℕ) : ℕ → Type 0 where
  no_digit : AllByRecursion IsDigit came → (IsDigit byte → ⊥) → byte ≢ 13 → (came ≡ [] → byte ≢ 45) → RefusedInLength limit came byte 103
  cr_behind_no_digit : came ≡ [] → byte ≡ 13 → RefusedInLength limit came byte 103
  no_one_behind_minus : came ≡ 45 ∷ [] → byte ≢ 49 → RefusedInLength limit came byte 103
  no_cr_behind_minus_one : came ≡ 45 ∷ 49 ∷ [] → byte ≢ 13 → RefusedInLength limit came byte 103
  eleventh_digit : AllByRecursion IsDigit came → length came ≡ 10 → IsDigit byte → RefusedInLength limit came byte 103
  no_lf_behind_cr : (digits : List ℕ) → AllByRecursion IsDigit digits → came ≡ digits ++ 13 ∷ [] → byte ≢ 10 → RefusedInLength limit came byte 105
  no_lf_behind_minus_one : came ≡ 45 ∷ 49 ∷ 13 ∷ [] → byte ≢ 10 → RefusedInLength limit came byte 105
  past_limit : AllByRecursion IsDigit came → IsDigit byte → limit < number_after 0 (came ++ byte ∷ []) → RefusedInLength limit came byte 106

-- a sign or none, and the greatest number that may stand behind it
abbrev pub IsSign : List ℕ → ℕ → Type 0
IsSign sign greatest = (((sign ≡ []) ⊎ (sign ≡ 43 ∷ [])) × (greatest ≡ 2 ^ 63 - 1)) ⊎ ((sign ≡ 45 ∷ []) × (greatest ≡ 2 ^ 63))

-- in the line of an integer, behind this sign and these digits
pub data RefusedInInteger (greatest : ℕ) (sign digits : List ℕ) (byte : ℕ) : ℕ → Type 0 where
  no_digit : (IsDigit byte → ⊥) → byte ≢ 13 → (sign ++ digits ≡ [] → (byte ≢ 43) × (byte ≢ 45)) → RefusedInInteger greatest sign digits byte 104
  cr_behind_no_digit : digits ≡ [] → byte ≡ 13 → RefusedInInteger greatest sign digits byte 104
  out_of_range : IsDigit byte → greatest < number_after 0 (digits ++ byte ∷ []) → RefusedInInteger greatest sign digits byte 104
  line_too_long : length (sign ++ digits) ≡ max_line → byte ≢ 13 → RefusedInInteger greatest sign digits byte 106

-- a byte that may stand in the line of a simple string or an error
abbrev pub IsLineByte : ℕ → Type 0
IsLineByte b = (b ≢ 13) × (b ≢ 10)

-- in that line, behind these bytes of it
pub data RefusedInLine (came : List ℕ) (byte : ℕ) : ℕ → Type 0 where
  lf_behind_no_cr : byte ≡ 10 → RefusedInLine came byte 105
  line_too_long : length came ≡ max_line → byte ≢ 13 → RefusedInLine came byte 106

-- in a value that is no array, behind these bytes of it
pub data RefusedInLeaf (came : List ℕ) (byte : ℕ) : ℕ → Type 0 where
  no_type : came ≡ [] → byte ≢ 43 → byte ≢ 45 → byte ≢ 58 → byte ≢ 36 → byte ≢ 42 → RefusedInLeaf came byte 102
  in_length : {number : ℕ} (part : List ℕ) → came ≡ 36 ∷ part → RefusedInLength max_bulk part byte number → RefusedInLeaf came byte number
  no_cr_behind_bulk : (digits s : List ℕ) → IsLength max_bulk digits (length s) → came ≡ line 36 digits ++ s → byte ≢ 13 → RefusedInLeaf came byte 105
  no_lf_behind_bulk : (digits s : List ℕ) → IsLength max_bulk digits (length s) → came ≡ line 36 digits ++ s ++ 13 ∷ [] → byte ≢ 10 → RefusedInLeaf came byte 105
  in_integer : {number : ℕ} (greatest : ℕ) (sign digits : List ℕ) → IsSign sign greatest → AllByRecursion IsDigit digits → came ≡ 58 ∷ sign ++ digits → RefusedInInteger greatest sign digits byte number → RefusedInLeaf came byte number
  no_lf_behind_integer : (greatest : ℕ) (sign digits : List ℕ) → IsSign sign greatest → AllByRecursion IsDigit digits → came ≡ 58 ∷ (sign ++ digits) ++ 13 ∷ [] → byte ≢ 10 → RefusedInLeaf came byte 105
  in_line : {number : ℕ} (kind : ℕ) (part : List ℕ) → (kind ≡ 43) ⊎ (kind ≡ 45) → AllByRecursion IsLineByte part → came ≡ kind ∷ part → RefusedInLine part byte number → RefusedInLeaf came byte number
  no_lf_behind_line : (kind : ℕ) (part : List ℕ) → (kind ≡ 43) ⊎ (kind ≡ 45) → AllByRecursion IsLineByte part → came ≡ kind ∷ part ++ 13 ∷ [] → byte ≢ 10 → RefusedInLeaf came byte 105

-- in a value, behind these bytes of it, where so many more arrays may stand one within the other: in no array, in the length
-- of an array, or in the member that is due behind whole ones
abbrev pub RefusedInValue : ℕ → ℕ → List ℕ → ℕ → ℕ → Type 0
RefusedInValue most zero came byte number = RefusedInLeaf came byte number ⊎ ((came ≡ []) × (byte ≡ 42) × (number ≡ 107))
RefusedInValue most (suc left) came byte number =
    RefusedInLeaf came byte number
    ⊎ (((part : List ℕ) × (came ≡ 42 ∷ part) × RefusedInLength most part byte number)
    ⊎ ((digits front part : List ℕ) × (n : ℕ) × (ts : Trees) × IsLength most digits n × AreTexts most left front ts × (length (members ts) < n) × (came ≡ line 42 digits ++ front ++ part) × RefusedInValue most left part byte number))

-- the numbers that fit a byte behind these of an outermost value: those of its place, and that of a value too long
abbrev pub Fits : ℕ → List ℕ → ℕ → ℕ → Type 0
Fits most came byte number = RefusedInValue most max_depth came byte number ⊎ ((length came ≡ max_text) × (number ≡ 106))

-- the number by which the byte is told
pub record IsTold (most : ℕ) (came : List ℕ) (byte number : ℕ) : Type 0 where
  pub fits : Fits most came byte number
  pub lowest : (other : ℕ) → Fits most came byte other → number ≤ other
