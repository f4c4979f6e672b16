-- Laws of texts and streams, for whoever stands on them.
use Rattle.std.specs.Prelude.{◌≡◌, ◌<◌, ◌≤◌, ◌^◌, ℕ, Bool, true, false, List, [], ◌∷◌, ◌++◌, length}
use Rattle.resp_core.specs.Tree.{Tree, is_plain_tree}
use Rattle.resp_core.specs.Grammar.{IsText, max_text, max_depth}
use Rattle.resp_core.specs.Text.{text}
use Rattle.resp_core.specs.Command.{is_command}
use Rattle.resp_core.specs.ValueLimits.{IsWithin}
use Rattle.resp_core.specs.Refusals.{IsTold}
use Rattle.resp_core.specs.Stream.{Splits, AreValues, IsRefusedAt, HasRefusal, HasNoRefusal}

-- No text begins another: a text that begins with a text is that text, of the same value.
abbrev pub NoTextBeginsAnother : Type 0
NoTextBeginsAnother = (most : ℕ) (b more : List ℕ) (t u : Tree) → IsText most max_depth b t → IsText most max_depth (b ++ more) u → (more ≡ []) × (t ≡ u)

-- The one spelling of a plain value within the limits is a text of it.
abbrev pub TextIsRead : Type 0
TextIsRead = (most left : ℕ) (t : Tree) → most < 2 ^ 32 → IsWithin most left t → is_plain_tree t ≡ true → IsText most left (text t) t

-- No text of a value is shorter than its one spelling.
abbrev pub SpellingIsShortest : Type 0
SpellingIsShortest = (most left : ℕ) (b : List ℕ) (t : Tree) → IsText most left b t → length (text t) ≤ length b

-- A text of a value that is as long as its one spelling is that spelling.
abbrev pub ShortestTextIsSpelling : Type 0
ShortestTextIsSpelling = (most left : ℕ) (b : List ℕ) (t : Tree) → IsText most left b t → length b ≡ length (text t) → b ≡ text t

-- A value that has a text is plain and within the limits.
abbrev pub ReadValuesArePlain : Type 0
ReadValuesArePlain = (most left : ℕ) (b : List ℕ) (t : Tree) → IsText most left b t → (is_plain_tree t ≡ true) × IsWithin most left t

-- A command is plain: its words are bulk strings.
abbrev pub CommandsArePlain : Type 0
CommandsArePlain = (t : Tree) → is_command t ≡ true → is_plain_tree t ≡ true

-- A stream has one list of values, and whatever else it is split into is a beginning of that list.
abbrev pub OneReading : Type 0
OneReading = (most : ℕ) (b : List ℕ) (ts us : List Tree) (rest left : List ℕ) → AreValues most b ts rest → Splits most b us left → (more : List Tree) × (ts ≡ us ++ more)

-- The values of a stream, and whether a byte behind them is refused.
abbrev pub Holds : ℕ → List ℕ → List Tree → Bool → Type 0
Holds most b ts false = HasNoRefusal most b ts
Holds most b ts true = (offset number : ℕ) × HasRefusal most b ts offset number

-- Each stream has its values, and a refused byte or none.
abbrev pub EachStreamHolds : Type 0
EachStreamHolds = (most : ℕ) (b : List ℕ) → (ts : List Tree) × (refused : Bool) × Holds most b ts refused

-- A stream has one list of values, and it is refused or it is not.
abbrev pub OneHolding : Type 0
OneHolding = (most : ℕ) (b : List ℕ) (ts us : List Tree) (refused other : Bool) → Holds most b ts refused → Holds most b us other → (ts ≡ us) × (refused ≡ other)

-- What was refused stays so, whatever comes behind it.
abbrev pub RefusalStays : Type 0
RefusalStays = (most : ℕ) (b more : List ℕ) (ts : List Tree) (offset number : ℕ) → HasRefusal most b ts offset number → HasRefusal most (b ++ more) ts offset number

-- Of an unfinished value one byte at most is refused.
abbrev pub OneRefusedByte : Type 0
OneRefusedByte = (most : ℕ) (rest : List ℕ) (m n : ℕ) → IsRefusedAt most rest m → IsRefusedAt most rest n → m ≡ n

-- A byte is told by one number.
abbrev pub OneNumber : Type 0
OneNumber = (most : ℕ) (came : List ℕ) (byte m n : ℕ) → IsTold most came byte m → IsTold most came byte n → m ≡ n

-- A stream has one refusal at most: one offset, and one number.
abbrev pub OneRefusal : Type 0
OneRefusal = (most : ℕ) (b : List ℕ) (ts us : List Tree) (offset other number another : ℕ) → HasRefusal most b ts offset number → HasRefusal most b us other another → (offset ≡ other) × (number ≡ another)

-- A stream that goes on keeps the values it had.
abbrev pub ValuesStay : Type 0
ValuesStay = (most : ℕ) (b more rest : List ℕ) (ts us : List Tree) (refused : Bool) → Splits most b ts rest → Holds most (b ++ more) us refused → (others : List Tree) × (us ≡ ts ++ others)

-- What was written is read again, whatever follows it.
abbrev pub TextIsReadBack : Type 0
TextIsReadBack = (most : ℕ) (t : Tree) (more : List ℕ) (ts : List Tree) (refused : Bool) → most < 2 ^ 32 → IsWithin most max_depth t → is_plain_tree t ≡ true → length (text t) ≤ max_text → Holds most (text t ++ more) ts refused → (others : List Tree) × (ts ≡ t ∷ others)

-- And so it is behind other values: whatever follows, that value comes next.
abbrev pub TextIsReadNext : Type 0
TextIsReadNext = (most : ℕ) (b more : List ℕ) (ts us : List Tree) (t : Tree) (refused : Bool) → most < 2 ^ 32 → IsWithin most max_depth t → is_plain_tree t ≡ true → length (text t) ≤ max_text → Splits most b ts (text t ++ more) → Holds most b us refused → (others : List Tree) × (us ≡ ts ++ t ∷ others)

-- A stream that is cut behind some of its values goes on as what is left of it: its values are those before the cut and those
-- of the rest with what follows.
abbrev pub ValuesGoOn : Type 0
ValuesGoOn = (most : ℕ) (b more rest : List ℕ) (ts us : List Tree) (refused : Bool) → Splits most b ts rest → Holds most (rest ++ more) us refused → Holds most (b ++ more) (ts ++ us) refused
