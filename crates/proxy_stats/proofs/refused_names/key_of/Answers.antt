use Rattle.std.proofs.Common.{ℕ, get_or, arith}
use Rattle.std.specs.Char.{to_ascii_lowercase}
use Rattle.std.proofs.lemmas.List.FromFn.{fill_by_all}
use Rattle.proxy_stats.specs.RefusedNames.{key_of}
use Rattle.proxy_stats.proofs.refused_names.key_of.Goals as goal

pub returns : goal.returns
unfolding key_of
returns c =
    fill_by_all (λ (i : ℕ). to_ascii_lowercase (get_or c.args.name.now i 0)) c.loop-i.key 32 0 c.loop-i.invariant.0 (λ k w. c.loop-i.invariant.1 k (omega arith))
