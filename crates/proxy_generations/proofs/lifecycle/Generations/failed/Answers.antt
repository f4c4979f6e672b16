use Rattle.std.proofs.Common.{inl, inr, eq-eqb}
use Rattle.proxy_generations.specs.Events.{Failed}
use Rattle.proxy_generations.proofs.GenerationsStateLemmas.{tells_nothing, tells_it, opening_is, is_opening, stands_failed, tries_end, newest-none, none_from, none_to}
use Rattle.proxy_generations.proofs.lifecycle.Generations.failed.Goals as goal

pub returns-then-not-is_opening-clause-tells : goal.returns-then-not-is_opening-clause-tells
returns-then-not-is_opening-clause-tells g c =
    tells_nothing (Failed c.args.number) c.args.self.now (λ s es st o.
    absurd (let yes = c.is_opening.ensures.1 (is_opening c.args.self.now s es c.args.number st o) in
    let no = c.if-not-is_opening.true in cc))

pub returns-then-not-is_opening-clause-ends : goal.returns-then-not-is_opening-clause-ends
returns-then-not-is_opening-clause-ends g c = λ s es st. (
  λ x. absurd cc,
  λ x. absurd (let yes = c.is_opening.ensures.1 (is_opening c.args.self.now s es c.args.number st x.0) in
      let no = c.if-not-is_opening.true in cc),
)

pub returns-then-self-eq0-clause-tells : goal.returns-then-self-eq0-clause-tells
returns-then-self-eq0-clause-tells g c =
    let is = c.is_opening.ensures.0 c.if-not-is_opening.false in
    tells_it (Failed c.args.number) c.args.self.now _ (λ s es st.
    let o = opening_is c.args.self.now s es c.args.number st is.0 is.1 in
    (o, stands_failed c.args.self.now s es c.args.number c.saturating_sub-self.result st o c.saturating_sub-self.ensures))

pub returns-then-self-eq0-clause-ends : goal.returns-then-self-eq0-clause-ends
returns-then-self-eq0-clause-ends g c = λ s es st.
    let is = c.is_opening.ensures.0 c.if-not-is_opening.false in
    let o = opening_is c.args.self.now s es c.args.number st is.0 is.1 in
    let end = tries_end c.args.self.now s es c.saturating_sub-self.result st c.saturating_sub-self.ensures in (
      λ x. (o, inr (end.0 c.if-self-eq0.true)),
      λ x. eq-eqb _ _ c.if-self-eq0.true,
    )

pub returns-else-self-eq0-clause-tells : goal.returns-else-self-eq0-clause-tells
returns-else-self-eq0-clause-tells g c =
    let is = c.is_opening.ensures.0 c.if-not-is_opening.false in
    tells_it (Failed c.args.number) c.args.self.now _ (λ s es st.
    let o = opening_is c.args.self.now s es c.args.number st is.0 is.1 in
    (o, stands_failed c.args.self.now s es c.args.number c.saturating_sub-self.result st o c.saturating_sub-self.ensures))

pub returns-else-self-eq0-clause-ends : goal.returns-else-self-eq0-clause-ends
returns-else-self-eq0-clause-ends g c = λ s es st.
    let is = c.is_opening.ensures.0 c.if-not-is_opening.false in
    let o = opening_is c.args.self.now s es c.args.number st is.0 is.1 in
    let none = newest-none c.args.self.now s es st in
    let end = tries_end c.args.self.now s es c.saturating_sub-self.result st c.saturating_sub-self.ensures in (
      λ x. (o, inl (none.0 (none_from c.args.self.now.newest c.is_none.result c.is_none.ensures x))),
      λ x. elim x.1 [
        | inl e ↦ none_to c.args.self.now.newest c.is_none.result c.is_none.ensures (none.1 e)
        | inr b ↦ absurd (c.if-self-eq0.false (end.1 b))
      ],
    )
