use Rattle.std.proofs.Common.{arith}
use Rattle.proxy_serve_core.proofs.IdlenessLemmas.{begins, stays}
use Rattle.proxy_serve_core.proofs.idleness.Idleness.note.Goals as goal
use Rattle.proxy_serve_core.proofs.idleness.Idleness.note.Goals.{then-self-came-via-then-self-came, then-self-came-via-else-self-came+then-is_none}

pub returns-then-self-came : goal.returns-then-self-came
returns-then-self-came c = λ sights told.
    begins sights c.args.self.now told c.args.sight (grind (arith, c.if-not-is_at_rest.false))
    (elim c.then-self-came.branch [
      | then-self-came-via-then-self-came w ↦ λ same. absurd (grind (arith, same, w.if-self-came))
      | then-self-came-via-else-self-came+then-is_none w ↦ λ same. grind (arith, w.is_none, w.if-is_none)
    ])

pub returns-else-is_none : goal.returns-else-is_none
returns-else-is_none c = λ sights told.
    stays sights c.args.self.now told c.args.sight (grind (arith, c.if-not-is_at_rest.false)) (grind (arith, c.if-self-came.false))
    (λ none. grind (arith, none, c.is_none.ensures, c.if-is_none.false))
