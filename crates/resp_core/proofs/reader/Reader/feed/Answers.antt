use Rattle.std.proofs.Common.{◌++◌, ℕ, List, refl, subst}
use Rattle.resp_core.specs.Tree.{Tree}
use Rattle.resp_core.specs.ReaderState.{ReaderState, Stands, state_of}
use Rattle.resp_core.proofs.streams.ReaderStateLemmas.{stands_fed, shown_on, on_reached}
use Rattle.resp_core.proofs.reader.Reader.feed.Goals as goal

pub invariant_of-self-2 : goal.invariant_of-self-2
invariant_of-self-2 c =
    let i = c.self.inside in
    (c.feed.ensures.good i.array c.self.invariant.0, on_reached i.array i.progress c.feed.new.self (λ held. held ++ c.args.piece.now) (c.in_ok-feed.ensures.reads i.array) c.self.invariant.1)

pub returns-clause-ok : goal.returns-clause-ok
returns-clause-ok c =
    let i = c.self.inside in
    subst (λ (z : ReaderState). (b : List ℕ) (ts : List Tree) → Stands z b ts → Stands (state_of i.array i.consumed c.feed.new.self i.refusal) (b ++ c.args.piece.now) ts) c.self.view_is
    (λ b ts h. stands_fed (state_of i.array i.consumed i.progress i.refusal) (state_of i.array i.consumed c.feed.new.self i.refusal) refl b c.args.piece.now ts c.in_default.is c.in_default.is refl
    (shown_on i.array i.progress c.feed.new.self (λ held. held ++ c.args.piece.now) (c.in_ok-feed.ensures.reads i.array)) h)
