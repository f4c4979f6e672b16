-- Laws of readers: how a reader comes to stand after more bytes and more values.
use Rattle.std.proofs.Common.{◌≡◌, ℕ, ◌+◌, ◌-◌, ◌<◌, ◌≤◌, List, refl, [], ◌∷◌, ◌++◌, length, take, drop, Option, Some, None, IfNone, sym, ap, ◌∙◌, subst, arith}
use Rattle.std.proofs.lemmas.List.{length-append, length-take, length-drop, take-append-drop}
use Rattle.resp_core.specs.FirstValue.{IsUnfinished, IsFault}
use Rattle.resp_core.specs.Tree.{Tree}
use Rattle.resp_core.specs.Grammar.{max_text}
use Rattle.resp_core.specs.Stream.{Splits, told_offset, HasRefusal, HasNoRefusal}
use Rattle.resp_core.specs.ReaderState.{ReaderState, IsReached, Stands, StandsBehind, Unmoved, Leaves, unread_bytes}
use Rattle.resp_core.specs.PartialValue.{Reads, Gave, held_of, shown_progress}
use Rattle.resp_core.specs.Offset.{offset_of, number_of}
use Rattle.resp_core.specs.declared.error.RespError.{RespError}
use Rattle.resp_core.specs.declared.partial_value.PartialValue.{PartialValue}
use Rattle.resp_core.specs.Readable.{IsReadable}
use Rattle.resp_core.proofs.streams.ReadableLemmas.{first_readable}
use Rattle.resp_core.proofs.unfinished.PartialValueLemmas.{held_is, reads_shown, shown_reads, unfinished_too}
use Rattle.resp_core.proofs.streams.SplitsLemmas.{splits_fed, splits_more, splits_shorter, told_later, first_value_some, no_refusal_of, refusal_of_fault}

-- what holds where nothing was refused
pub if_none : {A : Type 0} {o : Option RespError} → o ≡ None → IfNone o A → A
if_none {A} none h = subst (λ (z : Option RespError). IfNone z A) none h

pub none_if : {A : Type 0} {o : Option RespError} → o ≡ None → A → IfNone o A
none_if {A} none h = subst (λ (z : Option RespError). IfNone z A) (sym none) h

module _ (r s : ReaderState) (most : s.most ≡ r.most) where
  pub stands_fed : (b x : List ℕ) (ts : List Tree) → r.refusal ≡ None → s.refusal ≡ None → s.consumed ≡ r.consumed → ((held : List ℕ) → Reads r.most held r.progress → Reads r.most (held ++ x) s.progress) → Stands r b ts → Stands s (b ++ x) ts
  stands_fed b x ts none none' consumed on g = record {
    rest = g.rest ++ x;
    splits = rw most (splits_fed r.most b g.rest x ts g.splits);
    reads = none_if none' (rw most (on g.rest (if_none none g.reads)));
    consumed_is = none_if none' (consumed ∙ if_none none g.consumed_is ∙ ap told_offset (omega (arith, splits_shorter r.most b g.rest ts g.splits, length-append b x, length-append g.rest x)));
    told = rw none' tt;
  }

  -- a reader that gives the value at the front
  pub stands_given : (b : List ℕ) (ts : List Tree) (t : Tree) (len : ℕ) → r.refusal ≡ None → s.refusal ≡ None → s.consumed ≡ told_offset (r.consumed + len) → ((held : List ℕ) → Reads r.most held r.progress → Gave r.most held t len s.progress) → Stands r b ts → Stands s b (ts ++ t ∷ [])
  stands_given b ts t len none none' consumed on g =
      let gave = on g.rest (if_none none g.reads) in
      let f = gave.first in
      record {
        rest = drop len g.rest;
        splits = rw most (splits_more r.most b g.rest (take len g.rest) (drop len g.rest) ts t g.splits (sym (take-append-drop len g.rest)) f.text (omega (arith, length-take len g.rest, f.few)));
        reads = none_if none' (rw most gave.reads);
        consumed_is = none_if none' (consumed ∙ told_later r.consumed (length b - length g.rest) len (if_none none g.consumed_is) ∙ ap told_offset (omega (arith, splits_shorter r.most b g.rest ts g.splits, length-drop len g.rest, f.inside)));
        told = rw none' tt;
      }

  pub falls : (t : Tree) (len : ℕ) → r.refusal ≡ None → s.refusal ≡ None → ((held : List ℕ) → Reads r.most held r.progress → Gave r.most held t len s.progress) → IsReached r.most r.progress → unread_bytes s < unread_bytes r
  falls t len none none' on g =
      let gave = on g.held g.reads in
      let some = first_value_some r.most g.held t len gave.first in
      rw (none, none') (omega (arith, held_is r.most g.held r.progress g.reads, held_is r.most (drop len g.held) s.progress gave.reads, length-drop len g.held, some, gave.first.inside))

  -- a reader that has given nothing
  pub unmoved : r.refusal ≡ None → s.refusal ≡ None → s.consumed ≡ r.consumed → ((held : List ℕ) → Reads r.most held r.progress → Reads r.most held s.progress) → IsReached r.most r.progress → Unmoved r s
  unmoved none none' consumed on g = record {
    most = most;
    refusal = none' ∙ sym none;
    unread = rw (none, none') (held_is r.most g.held s.progress (on g.held g.reads) ∙ sym (held_is r.most g.held r.progress g.reads));
    stands = λ b ts h. record {
      rest = h.rest;
      splits = rw most h.splits;
      reads = none_if none' (rw most (on h.rest (if_none none h.reads)));
      consumed_is = none_if none' (consumed ∙ if_none none h.consumed_is);
      told = rw none' tt;
    };
  }

  pub stands_told : (b : List ℕ) (ts : List Tree) (e : RespError) → s.refusal ≡ Some e → HasRefusal r.most b ts (offset_of e) (number_of e) → Stands r b ts → Stands s b ts
  stands_told b ts e refusal h g = record {
    rest = g.rest;
    splits = rw most g.splits;
    reads = rw refusal tt;
    consumed_is = rw refusal tt;
    told = rw (refusal, most) h;
  }

-- a reader that has no value to give, and refuses none
pub no_refusal : (r : ReaderState) (b : List ℕ) (ts : List Tree) → r.refusal ≡ None → ((held : List ℕ) → Reads r.most held r.progress → IsUnfinished r.most held) → Stands r b ts → HasNoRefusal r.most b ts
no_refusal r b ts none on g = no_refusal_of r.most b g.rest ts g.splits (on g.rest (if_none none g.reads))

pub few_left : (most : ℕ) (p q : PartialValue) → ((held : List ℕ) → Reads most held p → Reads most held q × IsUnfinished most held) → IsReached most p → held_of q ≤ max_text
few_left most p q on g =
    let f = on g.held g.reads in
    omega (arith, held_is most g.held q f.0, f.1.few)

-- and none is left to give
pub rests_unfinished : (most : ℕ) (p q : PartialValue) → ((held : List ℕ) → Reads most held p → Reads most held q × IsUnfinished most held) → IsReached most p → (held : List ℕ) → Reads most held q → IsUnfinished most held
rests_unfinished most p q on g held r = let f = on g.held g.reads in unfinished_too most g.held held q f.0 r f.1

-- a reader that refuses a byte
pub has_refusal : (r : ReaderState) (b : List ℕ) (ts : List Tree) (place at number : ℕ) → r.refusal ≡ None → ((held : List ℕ) → Reads r.most held r.progress → IsFault r.most held place number) → at ≡ told_offset (r.consumed + place) → Stands r b ts → HasRefusal r.most b ts at number
has_refusal r b ts place at number none on e g =
    subst (λ (z : ℕ). HasRefusal r.most b ts z number) (sym (e ∙ told_later r.consumed (length b - length g.rest) place (if_none none g.consumed_is)))
    (refusal_of_fault r.most b g.rest ts place number g.splits (on g.rest (if_none none g.reads)))

pub gives_readable : (most len : ℕ) (p q : PartialValue) (t : Tree) → ((held : List ℕ) → Reads most held p → Gave most held t len q) → IsReached most p → IsReadable most t
gives_readable most len p q t on g = first_readable most g.held t len (on g.held g.reads).first

-- how many bytes a reader holds
pub leaves : (r : ReaderState) (b : List ℕ) (ts : List Tree) (n : ℕ) → n ≡ held_of r.progress → Stands r b ts → r.refusal ≡ None → Leaves r.most b ts n
leaves r b ts n e g none = record { rest = g.rest; splits = g.splits; length_is = e ∙ held_is r.most g.rest r.progress (if_none none g.reads) }

-- how far it has come, without the room behind its bytes
pub shown_gave : (most len : ℕ) (t : Tree) (p q : PartialValue) → ((held : List ℕ) → Reads most held p → Gave most held t len q) → (held : List ℕ) → Reads most held (shown_progress p) → Gave most held t len (shown_progress q)
shown_gave most len t p q on held r =
    let g = on held (shown_reads most held p r) in
    record { first = g.first; reads = reads_shown most (drop len held) q g.reads }

pub shown_on : (most : ℕ) (p q : PartialValue) (f : List ℕ → List ℕ) → ((held : List ℕ) → Reads most held p → Reads most (f held) q) → (held : List ℕ) → Reads most held (shown_progress p) → Reads most (f held) (shown_progress q)
shown_on most p q f on held r = reads_shown most (f held) q (on held (shown_reads most held p r))

pub shown_reached : (most : ℕ) (p : PartialValue) → IsReached most p → IsReached most (shown_progress p)
shown_reached most p g = record { held = g.held; reads = reads_shown most g.held p g.reads }

pub given_reached : (most len : ℕ) (t : Tree) (p q : PartialValue) → ((held : List ℕ) → Reads most held p → Gave most held t len q) → IsReached most p → IsReached most q
given_reached most len t p q on g = record { held = drop len g.held; reads = (on g.held g.reads).reads }

pub on_reached : (most : ℕ) (p q : PartialValue) (f : List ℕ → List ℕ) → ((held : List ℕ) → Reads most held p → Reads most (f held) q) → IsReached most p → IsReached most q
on_reached most p q f on g = record { held = f g.held; reads = on g.held g.reads }

-- the values that a reader has given stand at the front of what it was fed
pub splits-Stands : (r : ReaderState) (b : List ℕ) (ts : List Tree) → Stands r b ts → (rest : List ℕ) × Splits r.most b ts rest
splits-Stands r b ts h = (h.rest, h.splits)

-- a reader for which the stream begins behind the values given
pub stands_behind : (r : ReaderState) (b : List ℕ) (ts : List Tree) → r.refusal ≡ None → Stands r b ts → StandsBehind r.most b ts (record r { consumed = 0 })
stands_behind r b ts none g = record {
  rest = g.rest;
  splits = g.splits;
  stands = record {
    rest = g.rest;
    splits = refl;
    reads = g.reads;
    consumed_is = none_if none (omega arith);
    told = rw none tt;
  };
}
