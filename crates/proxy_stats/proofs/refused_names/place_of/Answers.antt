use Rattle.std.proofs.Common.{sym, ◌∙◌, arith}
use Rattle.std.proofs.lemmas.List.Sums.{position_or_len_is}
use Rattle.proxy_stats.specs.RefusedNames.{nowhere, has_key}
use Rattle.proxy_stats.proofs.refused_names.place_of.Goals as goal

pub returns-then-has_key : goal.returns-then-has_key
returns-then-has_key c =
    sym (position_or_len_is (has_key c.args.key.now) c.args.places.now c.loop-i.i nowhere (omega arith) (λ k w. c.loop-i.invariant k nowhere w) (λ w. sym c.has_key.ensures ∙ c.if-has_key.true))

pub returns : goal.returns
returns c =
    sym (position_or_len_is (has_key c.args.key.now) c.args.places.now _ nowhere (omega arith) (λ k w. c.loop-i.invariant k nowhere (omega arith)) (λ w. absurd (omega arith)))
