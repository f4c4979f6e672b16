-- Reading that goes on from the middle of a value.
use Rattle.std.specs.Prelude.{◌≡◌, ℕ, ℤ, pos, neg_ℤ, Bool, true, false, ◌+◌, ◌-◌, ◌^◌, ◌<◌, ◌≤◌, List, [], ◌∷◌, ◌++◌, Option, Some, None, Result, Ok, Err}
use Rattle.resp_core.specs.Tree.{Tree, simple, fault, whole, null_bulk, null_list}
use Rattle.resp_core.specs.Grammar.{max_bulk, max_line}
use Rattle.resp_core.specs.Reading.{Outcome, found, refused, and_then, byte_at, null_end_at, count_at, digits_at, of_length, of_integer, text_at, integer_at, payload_at, members_at, value_at}
use Rattle.resp_core.specs.declared.digits.Digits.{Digits}
use Rattle.resp_core.specs.declared.error.Refusal.{Refusal}
use Rattle.resp_core.specs.declared.error.Refusal.TheVariants.{BadLength, BadLineEnd}
use Rattle.resp_core.specs.declared.head.Sized.{Sized}
use Rattle.resp_core.specs.declared.head.Sized.TheVariants as sized
use Rattle.resp_core.specs.declared.head.Line.{Line}
use Rattle.resp_core.specs.declared.head.Line.TheVariants as lines
use Rattle.resp_core.specs.declared.head.Found.{Found}
use Rattle.resp_core.specs.declared.head.Found.TheVariants as founds
use Rattle.resp_core.specs.declared.head.Head.{Head}
use Rattle.resp_core.specs.declared.head.Head.TheVariants as heads
use Rattle.resp_core.specs.declared.head.Next.{Next}
use Rattle.resp_core.specs.declared.head.Next.TheVariants as nexts

-- the value with the text of a line
abbrev pub line_tree : Line → List ℕ → Tree
line_tree lines.Simple s = simple s
line_tree lines.Fault s = fault s

-- what stands behind a head, where so many more lists may stand one within the other
abbrev pub found_at : ℕ → ℕ → Found → List ℕ → Outcome Tree
found_at most left (founds.Line k) b = and_then (text_at [] b) (λ s rest. found (line_tree k s) rest)
found_at most left (founds.Payload n) b = payload_at (Some n) b
found_at most left (founds.Members n) b = members_at (value_at most (left - 1)) (Some n) b
found_at most left founds.NullBulk b = found null_bulk b
found_at most left founds.NullList b = found null_list b
found_at most left (founds.Whole n) b = found (whole n) b

-- how great a length may be, and what follows it
abbrev pub limit_of : ℕ → Sized → ℕ
limit_of most sized.Bulk = max_bulk
limit_of most sized.List = most

-- what a length announces
abbrev pub found_of : Sized → ℕ → Found
found_of sized.Bulk n = founds.Payload n
found_of sized.List n = founds.Members n

-- what is read behind a length
abbrev pub behind_length : ℕ → ℕ → Sized → Option ℕ → List ℕ → Outcome Tree
behind_length most left sized.Bulk = payload_at
behind_length most left sized.List = members_at (value_at most (left - 1))

-- the greatest number that has this sign, by its amount
abbrev pub limit_signed : Bool → ℕ
limit_signed true = 2 ^ 63
limit_signed false = 2 ^ 63 - 1

-- the integer of this sign and amount
abbrev pub signed_value : Bool → ℕ → ℤ
signed_value true n = neg_ℤ (pos n)
signed_value false n = pos n

-- what is read from the next byte of a head on
abbrev pub head_at : ℕ → ℕ → Head → List ℕ → Outcome Tree
head_at most left heads.Type b = value_at most left b
head_at most left (heads.Length s) b = and_then (count_at (limit_of most s) b) (behind_length most left s)
head_at most left (heads.One s) b = and_then (null_end_at b) (λ _ rest. behind_length most left s None rest)
head_at most left (heads.Return s) b = and_then (byte_at 13 (λ _. BadLength) b) (λ _ rest. and_then (byte_at 10 (λ _. BadLineEnd) rest) (λ _ rest. behind_length most left s None rest))
head_at most left (heads.Digits s count n) b = and_then (digits_at (of_length (limit_of most s)) count n b) (λ n rest. behind_length most left s (Some n) rest)
head_at most left heads.Sign b = and_then (integer_at b) (λ n rest. found (whole n) rest)
head_at most left (heads.Number minus digits count n) b = and_then (digits_at (of_integer (limit_signed minus) digits) count n b) (λ n rest. found (whole (signed_value minus n)) rest)
head_at most left (heads.Feed f) b = and_then (byte_at 10 (λ _. BadLineEnd) b) (λ _ rest. found_at most left f rest)

-- what is read next
abbrev pub next_at : ℕ → ℕ → Next → List ℕ → Outcome Tree
next_at most left (nexts.Head h) b = head_at most left h b
next_at most left (nexts.Found f) b = found_at most left f b

-- a byte leads to what is read next, or is refused
abbrev pub Steps : ℕ → ℕ → Head → ℕ → Result Next Refusal → Type 0
Steps most left h c (Ok next) = (cs : List ℕ) → head_at most left h (c ∷ cs) ≡ next_at most left next cs
Steps most left h c (Err r) = (cs : List ℕ) → head_at most left h (c ∷ cs) ≡ refused r (c ∷ cs)

-- a byte of a number: its digits end, or they write this number with it, or it is refused
abbrev pub DigitSteps : Digits → ℕ → ℕ → ℕ → Result (Option ℕ) Refusal → Type 0
DigitSteps d count n c (Ok None) = (cs : List ℕ) → digits_at d count n (c ∷ cs) ≡ and_then (byte_at 10 (λ _. BadLineEnd) cs) (λ _ rest. found n rest)
DigitSteps d count n c (Ok (Some m)) = (count < d.most) × (m ≤ d.limit) × ((cs : List ℕ) → digits_at d count n (c ∷ cs) ≡ digits_at d (count + 1) m cs)
DigitSteps d count n c (Err r) = (cs : List ℕ) → digits_at d count n (c ∷ cs) ≡ refused r (c ∷ cs)

-- what was found keeps the limits
abbrev pub IsGoodFound : ℕ → ℕ → Found → Type 0
IsGoodFound most left (founds.Line k) = Unit {0}
IsGoodFound most left (founds.Payload n) = n ≤ max_bulk
IsGoodFound most left (founds.Members n) = (0 < left) × (n ≤ most)
IsGoodFound most left founds.NullBulk = Unit {0}
IsGoodFound most left founds.NullList = Unit {0}
IsGoodFound most left (founds.Whole n) = Unit {0}

-- what was found is the null of a kind of length
abbrev pub IsNullOf : Sized → Found → Type 0
IsNullOf s f = (most left : ℕ) → IsGoodFound most left f × ((b : List ℕ) → behind_length most left s None b ≡ found_at most left f b)

-- behind these bytes of a head this is read next
abbrev pub GoesOn : ℕ → ℕ → Head → List ℕ → Next → Type 0
GoesOn most left h b next = (y : List ℕ) → head_at most left h (b ++ y) ≡ next_at most left next y

-- a head is read next
abbrev pub IsHead : Next → Type 0
IsHead (nexts.Head h) = Unit {0}
IsHead (nexts.Found f) = ⊥

-- what is within its limits
abbrev pub IsGoodSized : ℕ → Sized → Type 0
IsGoodSized left sized.Bulk = Unit {0}
IsGoodSized left sized.List = 0 < left

-- a head that is being read keeps the limits
abbrev pub IsGoodHead : ℕ → ℕ → Head → Type 0
IsGoodHead most left heads.Type = Unit {0}
IsGoodHead most left (heads.Length s) = IsGoodSized left s
IsGoodHead most left (heads.One s) = IsGoodSized left s
IsGoodHead most left (heads.Return s) = IsGoodSized left s
IsGoodHead most left (heads.Digits s count n) = IsGoodSized left s × (count ≤ 10) × (n ≤ limit_of most s)
IsGoodHead most left heads.Sign = Unit {0}
IsGoodHead most left (heads.Number minus digits count n) = (digits ≤ max_line) × (count ≤ digits) × (n ≤ limit_signed minus)
IsGoodHead most left (heads.Feed f) = IsGoodFound most left f

-- what is read next keeps the limits
abbrev pub IsGoodNext : ℕ → ℕ → Next → Type 0
IsGoodNext most left (nexts.Head h) = IsGoodHead most left h
IsGoodNext most left (nexts.Found f) = IsGoodFound most left f
