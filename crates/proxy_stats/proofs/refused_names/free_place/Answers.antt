use Rattle.std.proofs.Common.{sym, ◌∙◌, arith}
use Rattle.std.proofs.lemmas.List.Sums.{position_or_len_is}
use Rattle.proxy_stats.specs.RefusedNames.{nowhere, is_free}
use Rattle.proxy_stats.proofs.refused_names.free_place.Goals as goal

pub returns-then-is_free : goal.returns-then-is_free
returns-then-is_free c =
    sym (position_or_len_is is_free c.args.places.now c.loop-i.i nowhere (omega arith) (λ k w. c.loop-i.invariant k nowhere w) (λ w. sym c.is_free.ensures ∙ c.if-is_free.true))

pub returns : goal.returns
returns c =
    sym (position_or_len_is is_free c.args.places.now _ nowhere (omega arith) (λ k w. c.loop-i.invariant k nowhere (omega arith)) (λ w. absurd (omega arith)))
