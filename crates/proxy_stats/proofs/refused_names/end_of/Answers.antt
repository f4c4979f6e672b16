use Rattle.std.proofs.Common.{sym, arith}
use Rattle.std.specs.Prelude.{◌==◌, ℕ}
use Rattle.std.proofs.lemmas.Bool.{eq-eqb}
use Rattle.std.proofs.lemmas.List.Sums.{position_or_len_is}
use Rattle.proxy_stats.proofs.refused_names.end_of.Goals as goal

pub returns-then-byte-eq0-clause-end : goal.returns-then-byte-eq0-clause-end
returns-then-byte-eq0-clause-end c =
    sym (position_or_len_is (λ (b : ℕ). b == 0) c.args.key.now c.loop-i.i 0 (omega arith) (λ k w. c.loop-i.invariant k w) (λ w. eq-eqb _ 0 c.if-byte-eq0.true))

pub returns-clause-end : goal.returns-clause-end
returns-clause-end c =
    sym (position_or_len_is (λ (b : ℕ). b == 0) c.args.key.now _ 0 (omega arith) (λ k w. c.loop-i.invariant k (omega arith)) (λ w. absurd (omega arith)))
