use Rattle.std.proofs.Common.{arith, rules}
use Rattle.proxy_serve_core.proofs.KeySetLemmas.{next_in_word}
use Rattle.proxy_serve_core.proofs.key_set.first_behind.Goals as goal

pub returns-then-word-ne0-clause-found : goal.returns-then-word-ne0-clause-found
returns-then-word-ne0-clause-found c =
    next_in_word c.args.words.now _ c.loop-next.next c.loop-next.invariant (omega (arith, c.loop-next.auto.next)) (search rules) (search rules)
