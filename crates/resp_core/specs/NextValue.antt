-- What a reader answers when it is asked for the next value, from the state before to the one after.
use Rattle.std.specs.Prelude.{◌≡◌, ◌<◌, ◌≤◌, ℕ, List, [], ◌∷◌, ◌++◌, Some}
use Rattle.resp_core.specs.Tree.{Tree}
use Rattle.resp_core.specs.declared.error.RespError.{RespError}
use Rattle.resp_core.specs.Grammar.{max_text}
use Rattle.resp_core.specs.Readable.{IsReadable}
use Rattle.resp_core.specs.Stream.{HasRefusal, HasNoRefusal}
use Rattle.resp_core.specs.Offset.{offset_of, number_of}
use Rattle.resp_core.specs.ReaderState.{ReaderState, Stands, Unmoved, unread_bytes}

-- A reader gives the next value of its stream, and this is it.
pub record GivesValue (r s : ReaderState) (t : Tree) : Type 0 where
  -- It is the next one of the bytes fed, behind all that were given. It is
  pub stands : (b : List ℕ) (ts : List Tree) → Stands r b ts → Stands s b (ts ++ t ∷ [])
  -- within the limits of what a reader can give,
  pub readable : IsReadable r.most t
  -- and its text is held no longer
  pub falls : unread_bytes s < unread_bytes r

-- A reader has no whole value left.
pub record GivesNone (r s : ReaderState) : Type 0 where
  -- The values given are all that the bytes fed have, and no byte is refused,
  pub none : (b : List ℕ) (ts : List Tree) → Stands r b ts → HasNoRefusal r.most b ts
  -- also for all bytes and values that lead to the state after.
  pub rests : (b : List ℕ) (ts : List Tree) → Stands s b ts → HasNoRefusal s.most b ts
  -- It stands as before,
  pub same : Unmoved r s
  -- and holds no more bytes than a text may have
  pub few : unread_bytes s ≤ max_text

-- A reader tells that a byte of its stream is refused.
pub record TellsRefusal (r s : ReaderState) (e : RespError) : Type 0 where
  -- The byte stands at this offset behind all values of the bytes fed, and is refused by this number.
  pub refused : (b : List ℕ) (ts : List Tree) → Stands r b ts → HasRefusal r.most b ts (offset_of e) (number_of e)
  -- The reader stands for the same bytes and values,
  pub stands : (b : List ℕ) (ts : List Tree) → Stands r b ts → Stands s b ts
  -- and tells the same from here on
  pub told : s.refusal ≡ Some e
