use Rattle.std.proofs.Common.{subst, refl}
use Rattle.resp_core.specs.NextValue.{GivesValue}
use Rattle.resp_core.specs.ReaderState.{ReaderState, state_of}
use Rattle.resp_core.specs.Command.{command_of}
use Rattle.resp_core.proofs.streams.ReaderStateLemmas.{stands_given, falls, gives_readable, shown_gave, shown_reached, given_reached}
use Rattle.resp_core.proofs.reader.Reader.next_spelled.Goals as goal

pub invariant_of-self-in-Some-2 : goal.invariant_of-self-in-Some-2
invariant_of-self-in-Some-2 c =
    let i = c.self.inside in
    let t = command_of c.in-Some-2.command in
    (c.next_spelled.ensures.good, given_reached i.array c.in-Some-2.len t i.progress c.next_spelled.new.self (rw c.in-Some-2.is at c.in_ok-command.ensures.value) c.self.invariant.1)

pub returns-in-Some-2-clause-given : goal.returns-in-Some-2-clause-given
returns-in-Some-2-clause-given c =
    let i = c.self.inside in
    let t = command_of c.in-Some-2.command in
    let r = state_of i.array i.consumed i.progress i.refusal in
    let s = state_of i.array c.saturating_add-self-inside.result c.next_spelled.new.self i.refusal in
    let gave = rw c.in-Some-2.is at c.in_ok-command.ensures.value in
    let shown = shown_gave i.array c.in-Some-2.len t i.progress c.next_spelled.new.self gave in
    subst (λ (z : ReaderState). GivesValue z s t) c.self.view_is (record {
      stands = λ b ts h. stands_given r s refl b ts t c.in-Some-2.len c.in_default.is c.in_default.is (rw c.in-Some-2.len-is at c.saturating_add-self-inside.ensures) shown h;
      readable = gives_readable i.array c.in-Some-2.len i.progress c.next_spelled.new.self t gave c.self.invariant.1;
      falls = falls r s refl t c.in-Some-2.len c.in_default.is c.in_default.is shown (shown_reached i.array i.progress c.self.invariant.1);
    })
