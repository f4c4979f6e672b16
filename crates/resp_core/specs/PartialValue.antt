-- How far a reader has come in an unfinished value.
use Rattle.std.specs.Prelude.{◌≡◌, ℕ, ◌-◌, ◌+◌, ◌*◌, ◌≤◌, List, [], ◌++◌, length, take, drop, Option, Some, None, Result, IfOk, IfSome, IfNone, OnErr}
use Rattle.resp_core.specs.Tree.{Tree}
use Rattle.resp_core.specs.Value.{tree_of}
use Rattle.resp_core.specs.Grammar.{max_depth, max_text}
use Rattle.resp_core.specs.Reading.{Outcome, found, unfinished, refused, value_at}
use Rattle.resp_core.specs.ResumedReading.{next_at, IsGoodNext}
use Rattle.resp_core.specs.OpenLists.{nested_outcome}
use Rattle.resp_core.specs.SeenBytes.{IsSeen}
use Rattle.resp_core.specs.FirstValue.{IsFirstValue, IsFault}
use Rattle.resp_core.specs.Offset.{refusal_number}
use Rattle.resp_core.specs.declared.value.Value.{Value}
use Rattle.resp_core.specs.declared.head.Next.{Next}
use Rattle.resp_core.specs.declared.head.Next.TheVariants as nexts
use Rattle.resp_core.specs.declared.head.Head.TheVariants as heads
use Rattle.resp_core.specs.declared.head.Found.{Found}
use Rattle.resp_core.specs.declared.head.Found.TheVariants as founds
use Rattle.resp_core.specs.declared.partial_value.Halt.{Halt}
use Rattle.resp_core.specs.declared.partial_value.Halt.TheVariants as halts
use Rattle.resp_core.specs.declared.partial_value.PartialValue.{PartialValue}

-- what is read in the innermost list: the member that came, or what comes next
abbrev pub due_at : ℕ → ℕ → Option Value → Next → List ℕ → Outcome Tree
due_at most left (Some v) next b = found (tree_of v) b
due_at most left None next b = next_at most left next b

-- what is read of the outermost value, from the next byte on
abbrev pub resume : ℕ → PartialValue → List ℕ → Outcome Tree
resume most p b = nested_outcome most max_depth p.opens.items (due_at most (max_depth - length p.opens.items) p.done p.next b)

-- The bytes are those of the value that were taken, and those that were fed behind them; and what was taken is read as the
-- partial value says, whatever follows it.
pub record Reads (most : ℕ) (held : List ℕ) (p : PartialValue) : Type 0 where
  pub taken : List ℕ
  pub split : held ≡ taken ++ p.pending.items
  pub came : length taken ≡ p.came
  pub same : (y : List ℕ) → value_at most max_depth (taken ++ y) ≡ resume most p y

-- the value that was found, and the bytes behind it
pub record Finds (most : ℕ) (held : List ℕ) (p : PartialValue) (t : Tree) : Type 0 where
  pub taken : List ℕ
  pub split : held ≡ taken ++ p.pending.items
  pub came : length taken ≡ p.came
  pub same : (y : List ℕ) → value_at most max_depth (taken ++ y) ≡ found t y

-- the bytes of the payload that is due next
abbrev pub payload_due : Next → ℕ
payload_due (nexts.Found (founds.Payload n)) = n
payload_due next = 0

-- what holds of the fields
pub record IsGood (most : ℕ) (p : PartialValue) : Type 0 where
  pub few : length p.opens.items ≤ max_depth
  pub next : IsGoodNext most (max_depth - length p.opens.items) p.next
  pub seen : IsSeen p.seen p.pending.items
  pub came : p.came + p.seen ≤ max_text + 1
  pub done : IfSome p.done (λ _. p.next ≡ nexts.Head heads.Type)
  pub needed : (p.needed ≤ payload_due p.next) × (p.came + p.needed ≤ max_text + 1)

-- the bytes of the value that came: those that were taken, and those that are pending
abbrev pub held_of : PartialValue → ℕ
held_of p = p.came + length p.pending.items

-- the same but for the room behind the bytes
abbrev pub shown_progress : PartialValue → PartialValue
shown_progress p = record { pending = record { items = p.pending.items; spare = 0 }; room = 0; opens = p.opens; done = p.done; next = p.next; seen = p.seen; came = p.came; needed = p.needed }

-- the same with this complete value
abbrev pub with_done : Value → PartialValue → PartialValue
with_done v p = record { pending = p.pending; room = p.room; opens = p.opens; done = Some v; next = p.next; seen = p.seen; came = p.came; needed = p.needed }

-- 1 where a head was read to its end
abbrev pub behind_head : Next → ℕ
behind_head (nexts.Head h) = 0
behind_head (nexts.Found f) = 1

-- a number that falls with each head that is read, and with what each is found to be
abbrev pub to_read : PartialValue → ℕ
to_read p = length p.pending.items * 2 + behind_head p.next

-- 1 where a complete value isn't in its list yet
abbrev pub undone : Option Value → ℕ
undone None = 0
undone (Some v) = 1

-- a number that falls with each value that is put into its list, too
abbrev pub to_do : PartialValue → ℕ
to_do p = to_read p * 2 + undone p.done

-- nothing is read, and no list is open
pub record IsFresh (p : PartialValue) : Type 0 where
  pub opens : p.opens.items ≡ []
  pub done : p.done ≡ None
  pub next : p.next ≡ nexts.Head heads.Type

-- the bytes that are looked at
abbrev pub seen_of : List ℕ → List ℕ
seen_of held = take (max_text + 1) held

-- why it goes no further: memory, or the byte at this place of the value
abbrev pub HaltsAt : ℕ → List ℕ → Halt → Type 0
HaltsAt most held halts.NoMemory = Unit {0}
HaltsAt most held (halts.Refused r place) = value_at most max_depth (seen_of held) ≡ refused r (drop place (seen_of held))

-- The value at the front of the bytes was given, of so many of them, and nothing is read of the others.
pub record Gave (most : ℕ) (held : List ℕ) (t : Tree) (len : ℕ) (p : PartialValue) : Type 0 where
  pub first : IsFirstValue most held t len
  pub reads : Reads most (drop len held) p

-- no value was given: for want of memory, and then it goes on from there; or the byte at this place is refused
abbrev pub HasStopped : ℕ → List ℕ → PartialValue → Halt → Type 0
HasStopped most held p halts.NoMemory = Reads most held p
HasStopped most held p (halts.Refused r place) = IsFault most held place (refusal_number r)

-- whatever bytes the one has come so far in, the other has come so far in
abbrev pub LeadsTo : ℕ → PartialValue → PartialValue → Type 0
LeadsTo most p q = (held : List ℕ) → Reads most held p → Reads most held q

-- and they are a value
abbrev pub LeadsToValue : ℕ → PartialValue → PartialValue → Tree → Type 0
LeadsToValue most p q t = (held : List ℕ) → Reads most held p → Finds most held q t

-- they are less than a value
abbrev pub IsShort : ℕ → PartialValue → Type 0
IsShort most p = (held : List ℕ) → Reads most held p → value_at most max_depth (seen_of held) ≡ unfinished

-- they are read no further
abbrev pub HaltsIn : ℕ → PartialValue → Halt → Type 0
HaltsIn most p e = (held : List ℕ) → Reads most held p → HaltsAt most held e

-- What the head that is due came to: it announces this, which is read next; or the bytes are less than a value.
abbrev pub CameTo : ℕ → PartialValue → PartialValue → Option Found → Type 0
CameTo most p q (Some f) = (q.done ≡ None) × (q.next ≡ nexts.Found f)
CameTo most p q None = IsShort most p

-- A complete value was put into its list, and each list closed that it completes.
pub record ClosesLists {E : Type 0} (most : ℕ) (p q : PartialValue) (result : Result (Option Value) E) : Type 0 where
  pub good : IsGood most q
  -- the outermost value is complete,
  pub fresh : IfOk result (λ o. IfSome o (λ _. IsFresh q))
  pub value : IfOk result (λ o. IfSome o (λ v. LeadsToValue most p q (tree_of v)))
  -- or more is to be read of it,
  pub reads : IfOk result (λ o. IfNone o (LeadsTo most p q))
  -- or there was no memory, and nothing is lost
  pub err : OnErr result (LeadsTo most p q)
