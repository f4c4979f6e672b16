use Rattle.std.proofs.Common.{ℕ, List, ap, ◌∙◌, subst}
use Rattle.resp_core.specs.Tree.{Tree}
use Rattle.resp_core.specs.ReaderState.{ReaderState, Stands, StandsBehind, state_of}
use Rattle.resp_core.proofs.streams.ReaderStateLemmas.{stands_behind}
use Rattle.resp_core.proofs.reader.Reader.begin_behind.Goals as goal

pub returns-clause-stands : goal.returns-clause-stands
returns-clause-stands c =
    let i = c.self.inside in
    subst (λ (z : ReaderState). (b : List ℕ) (ts : List Tree) → Stands z b ts → StandsBehind z.most b ts (state_of i.array 0 i.progress i.refusal)) c.self.view_is
    (λ b ts h. stands_behind (state_of i.array i.consumed i.progress i.refusal) b ts (ap (λ (z : ReaderState). z.refusal) c.self.view_is ∙ c.requires) h)
