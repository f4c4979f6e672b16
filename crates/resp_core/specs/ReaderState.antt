-- A reader that was fed bytes and has given values.
use Rattle.std.specs.Prelude.{◌≡◌, ℕ, ◌-◌, List, [], length, Option, Some, None, IfSome, IfNone}
use Rattle.resp_core.specs.Tree.{Tree}
use Rattle.resp_core.specs.declared.error.RespError.{RespError}
use Rattle.resp_core.specs.declared.partial_value.PartialValue.{PartialValue}
use Rattle.resp_core.specs.Offset.{offset_of, number_of}
use Rattle.resp_core.specs.Stream.{Splits, HasRefusal, told_offset}
use Rattle.resp_core.specs.PartialValue.{Reads, held_of, shown_progress}

-- what clauses see of a reader: how many members an array may have, how many bytes came before the unfinished value, how
-- far it has come in that value, and the refusal that was told
pub record ReaderState : Type 0 where
  pub most : ℕ
  pub consumed : ℕ
  pub progress : PartialValue
  pub refusal : Option RespError

-- the state of a reader whose unfinished value has come so far, whatever room there is behind its bytes
abbrev pub state_of : ℕ → ℕ → PartialValue → Option RespError → ReaderState
state_of most consumed p refusal = record { most = most; consumed = consumed; progress = shown_progress p; refusal = refusal }

-- how many bytes behind the values given a reader has been fed, and 0 after a refusal
abbrev pub unread_by : Option RespError → PartialValue → ℕ
unread_by None p = held_of p
unread_by (Some e) p = 0

-- how many bytes behind the values given a reader holds
abbrev pub unread_bytes : ReaderState → ℕ
unread_bytes r = unread_by r.refusal r.progress

-- the bytes are the texts of these values, each of at most as many bytes as a text may have, and then n others
pub record Leaves (most : ℕ) (b : List ℕ) (ts : List Tree) (n : ℕ) : Type 0 where
  pub rest : List ℕ
  pub splits : Splits most b ts rest
  pub length_is : n ≡ length rest

-- A reader that was fed these bytes and has given these values: behind their texts stand the bytes of an unfinished value in
-- which it has come so far; or it has told what is refused there.
pub record Stands (r : ReaderState) (b : List ℕ) (ts : List Tree) : Type 0 where
  pub rest : List ℕ
  pub splits : Splits r.most b ts rest
  pub reads : IfNone r.refusal (Reads r.most rest r.progress)
  pub consumed_is : IfNone r.refusal (r.consumed ≡ told_offset (length b - length rest))
  pub told : IfSome r.refusal (λ e. HasRefusal r.most b ts (offset_of e) (number_of e))

-- what holds of the fields of a reader: some bytes lead to how far it has come
pub record IsReached (most : ℕ) (p : PartialValue) : Type 0 where
  pub held : List ℕ
  pub reads : Reads most held p

-- From one state to the next the reader has given nothing: it stands for the same bytes and values, and holds as many bytes.
pub record Unmoved (r s : ReaderState) : Type 0 where
  pub most : s.most ≡ r.most
  pub refusal : s.refusal ≡ r.refusal
  pub unread : unread_bytes s ≡ unread_bytes r
  pub stands : (b : List ℕ) (ts : List Tree) → Stands r b ts → Stands s b ts

-- Behind the texts of these values stand the bytes of an unfinished one, and the reader is one that was fed these alone.
pub record StandsBehind (most : ℕ) (b : List ℕ) (ts : List Tree) (r : ReaderState) : Type 0 where
  pub rest : List ℕ
  pub splits : Splits most b ts rest
  pub stands : Stands r rest []
