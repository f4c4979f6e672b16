use Rattle.std.proofs.lemmas.Bool.{iff_false}
use Rattle.proxy_generations.proofs.GenerationsStateLemmas.{drains_is, way_is, aside, is_in_the_way, gives_up, drains, is_unasked, is_wanted, none_otherwise}
use Rattle.proxy_generations.proofs.lifecycle.Generations.task.Goals as goal

pub returns-then-not-has : goal.returns-then-not-has
returns-then-not-has g c = λ s es st.
    λ e. iff_false c.has.ensures c.if-not-has.true ((drains_is c.args.self.now s es c.args.number st).1 e)

pub returns-then-not-is_in_the_way : goal.returns-then-not-is_in_the_way
returns-then-not-is_in_the_way g c = λ s es st.
    let kept = (drains_is c.args.self.now s es c.args.number st).0 (c.has.ensures.0 c.if-not-has.false) in (
      kept,
      aside es st.may c.args.number kept
          (λ e. iff_false c.is_in_the_way.ensures c.if-not-is_in_the_way.true ((way_is c.args.self.now s es c.args.number st).1 e)),
    )

pub returns-in-Wanted : goal.returns-in-Wanted
returns-in-Wanted g c = λ s es st.
    let e = (way_is c.args.self.now s es c.args.number st).0 (c.is_in_the_way.ensures.0 c.if-not-is_in_the_way.false) in (
      (drains_is c.args.self.now s es c.args.number st).0 (c.has.ensures.0 c.if-not-has.false),
      is_in_the_way es st.may c.args.number e (is_wanted c.args.self.now s es c.in-Wanted.field-0 st c.in-Wanted.is),
    )

pub returns-in_default : goal.returns-in_default
returns-in_default g c = λ s es st.
    let e = (way_is c.args.self.now s es c.args.number st).0 (c.is_in_the_way.ensures.0 c.if-not-is_in_the_way.false) in (
      (drains_is c.args.self.now s es c.args.number st).0 (c.has.ensures.0 c.if-not-has.false),
      gives_up es st.may c.args.number e (is_unasked c.args.self.now s es c.args.number st e (λ from. c.in_default.not-Wanted from)) (let near = st.near_is in let some = c.is_some.ensures in let is = c.if-is_some.true in cc),
    )

pub returns-in_default-2 : goal.returns-in_default-2
returns-in_default-2 g c = λ s es st.
    let e = (way_is c.args.self.now s es c.args.number st).0 (c.is_in_the_way.ensures.0 c.if-not-is_in_the_way.false) in (
      (drains_is c.args.self.now s es c.args.number st).0 (c.has.ensures.0 c.if-not-has.false),
      drains es st.may c.args.number e (is_unasked c.args.self.now s es c.args.number st e (λ from. c.in_default.not-Wanted from)) (let near = st.near_is in let none = none_otherwise c.args.self.now.near_since c.is_some.result c.is_some.ensures c.if-is_some.false in cc),
    )
