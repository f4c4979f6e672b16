use Rattle.std.proofs.Common.{[], ℕ, List, Some, refl, sym, ◌∙◌, subst}
use Rattle.resp_core.specs.Tree.{Tree}
use Rattle.resp_core.specs.Value.{tree_of}
use Rattle.resp_core.specs.FirstValue.{IsFault, IsUnfinished}
use Rattle.resp_core.specs.NextValue.{GivesValue, GivesNone, TellsRefusal}
use Rattle.resp_core.specs.PartialValue.{Reads}
use Rattle.resp_core.specs.Offset.{offset_of, number_of}
use Rattle.resp_core.specs.Stream.{HasRefusal, HasNoRefusal}
use Rattle.resp_core.specs.ReaderState.{ReaderState, state_of, Stands, Unmoved}
use Rattle.resp_core.proofs.unfinished.PartialValueLemmas.{shown_reads}
use Rattle.resp_core.proofs.streams.ReaderStateLemmas.{stands_given, stands_told, unmoved, falls, few_left, no_refusal, rests_unfinished, has_refusal, gives_readable, shown_gave, shown_on, shown_reached, given_reached, on_reached}
use Rattle.resp_core.proofs.reader.Reader.next_value.Goals as goal

pub invariant_of-self : goal.invariant_of-self
invariant_of-self c =
    let i = c.self.inside in
    (c.next_value.ensures.good, given_reached i.array c.in-Ok-Some.len (tree_of c.in-Ok-Some.value) i.progress c.next_value.new.self (rw c.in-Ok-Some.field-0-is at c.in-Ok-Some.ensures.value) c.self.invariant.1)

pub invariant_of-self-in-Ok-None : goal.invariant_of-self-in-Ok-None
invariant_of-self-in-Ok-None c =
    let i = c.self.inside in
    (c.next_value.ensures.good, on_reached i.array i.progress c.next_value.new.self (λ held. held) (λ held r. ((rw c.in-Ok-None.field-0-is at c.in-Ok-None.ensures.none) held r).0) c.self.invariant.1)

pub invariant_of-self-in-Err-Refused : goal.invariant_of-self-in-Err-Refused
invariant_of-self-in-Err-Refused c =
    (c.begin_anew.ensures.good c.self.inside.array, record { held = []; reads = c.begin_anew.ensures.reads c.self.inside.array })

pub returns-in-Ok-Some-clause-given : goal.returns-in-Ok-Some-clause-given
returns-in-Ok-Some-clause-given c =
    let i = c.self.inside in
    let t = tree_of c.in-Ok-Some.value in
    let r = state_of i.array i.consumed i.progress i.refusal in
    let s = state_of i.array c.saturating_add-self-inside.result c.next_value.new.self i.refusal in
    let gave = rw c.in-Ok-Some.field-0-is at c.in-Ok-Some.ensures.value in
    let shown = shown_gave i.array c.in-Ok-Some.len t i.progress c.next_value.new.self gave in
    rw c.in-Ok-Some.field-0-is (subst (λ (z : ReaderState). GivesValue z s t) c.self.view_is (record {
      stands = λ b ts h. stands_given r s refl b ts t c.in-Ok-Some.len c.in_default.is c.in_default.is (rw c.in-Ok-Some.field-0-is at c.saturating_add-self-inside.ensures) shown h;
      readable = gives_readable i.array c.in-Ok-Some.len i.progress c.next_value.new.self t gave c.self.invariant.1;
      falls = falls r s refl t c.in-Ok-Some.len c.in_default.is c.in_default.is shown (shown_reached i.array i.progress c.self.invariant.1);
    }))

pub returns-in-Ok-None-clause-none : goal.returns-in-Ok-None-clause-none
returns-in-Ok-None-clause-none c =
    let i = c.self.inside in
    let r = state_of i.array i.consumed i.progress i.refusal in
    let s = state_of i.array i.consumed c.next_value.new.self i.refusal in
    let short = rw c.in-Ok-None.field-0-is at c.in-Ok-None.ensures.none in
    subst (λ (z : ReaderState). GivesNone z s) c.self.view_is (record {
      none = λ b ts h. no_refusal r b ts c.in_default.is (λ held reads. (short held (shown_reads i.array held i.progress reads)).1) h;
      rests = λ b ts h. no_refusal s b ts c.in_default.is (λ held reads. rests_unfinished i.array i.progress c.next_value.new.self short c.self.invariant.1 held (shown_reads i.array held c.next_value.new.self reads)) h;
      same = unmoved r s refl c.in_default.is c.in_default.is refl (shown_on i.array i.progress c.next_value.new.self (λ held. held) (λ held reads. (short held reads).0)) (shown_reached i.array i.progress c.self.invariant.1);
      few = rw c.in_default.is (few_left i.array i.progress c.next_value.new.self short c.self.invariant.1);
    })

pub returns-in-Err-NoMemory-clause-memory : goal.returns-in-Err-NoMemory-clause-memory
returns-in-Err-NoMemory-clause-memory c = λ _.
    let i = c.self.inside in
    subst (λ (z : ReaderState). Unmoved z (state_of i.array i.consumed c.next_value.new.self i.refusal)) c.self.view_is
    (unmoved (state_of i.array i.consumed i.progress i.refusal) (state_of i.array i.consumed c.next_value.new.self i.refusal) refl c.in_default.is c.in_default.is refl (shown_on i.array i.progress c.next_value.new.self (λ held. held) (rw c.in-Err-NoMemory.field-0-is at c.in-Err-NoMemory.ensures.halts)) (shown_reached i.array i.progress c.self.invariant.1))

pub returns-in-Err-Refused-clause-refused : goal.returns-in-Err-Refused-clause-refused
returns-in-Err-Refused-clause-refused c = λ _.
    let i = c.self.inside in
    let e = c.at-error.result in
    let r = state_of i.array i.consumed i.progress i.refusal in
    let s = state_of i.array i.consumed c.begin_anew.new.self (Some e) in
    let fault = rw c.in-Err-Refused.field-0-is at c.in-Err-Refused.ensures.halts in
    let refused : (b : List ℕ) (ts : List Tree) → Stands r b ts → HasRefusal i.array b ts (offset_of e) (number_of e) = λ b ts h.
    has_refusal r b ts c.in-Err-Refused.place (offset_of e) (number_of e) c.in_default.is
    (λ held reads. subst (λ (n : ℕ). IsFault i.array held c.in-Err-Refused.place n) (sym c.at-error.ensures.number) (fault held (shown_reads i.array held i.progress reads)))
    (c.at-error.ensures.offset ∙ c.saturating_add.ensures) h in
    subst (λ (z : ReaderState). TellsRefusal z s e) c.self.view_is (record {
      refused = refused;
      stands = λ b ts h. stands_told r s refl b ts e refl (refused b ts h) h;
      told = refl;
    })

pub returns-in-Ok-Some-clause-none : goal.returns-in-Ok-Some-clause-none
returns-in-Ok-Some-clause-none c = tt

pub returns-then-is_short-clause-none : goal.returns-then-is_short-clause-none
returns-then-is_short-clause-none c =
    let i = c.self.inside in
    let r = state_of i.array i.consumed i.progress i.refusal in
    let short : (held : List ℕ) → Reads i.array held i.progress → IsUnfinished i.array held = λ held reads. c.is_short.ensures c.if-is_short.true i.array c.self.invariant.0 held reads in
    let none : (b : List ℕ) (ts : List Tree) → Stands r b ts → HasNoRefusal i.array b ts = λ b ts h. no_refusal r b ts c.in_default.is (λ held reads. short held (shown_reads i.array held i.progress reads)) h in
    subst (λ (z : ReaderState). GivesNone z z) c.self.view_is (record {
      none = none;
      rests = none;
      same = record { most = refl; refusal = refl; unread = refl; stands = λ b ts h. h };
      few = rw c.in_default.is (few_left i.array i.progress i.progress (λ held reads. (reads, short held reads)) c.self.invariant.1);
    })
