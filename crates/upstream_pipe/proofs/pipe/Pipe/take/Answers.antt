use Rattle.std.proofs.Common.{sym, ap, ◌∙◌, arith}
use Rattle.upstream_pipe.specs.Pipe.{PipeState}
use Rattle.upstream_pipe.proofs.pipe.Pipe.take.Goals as goal

pub returns-clause-waiting : goal.returns-clause-waiting
returns-clause-waiting c = sym (ap (λ (p : PipeState). p.waiting) c.self.view_is) ∙ c.in_ok-part.ensures.items

pub returns-clause-taken : goal.returns-clause-taken
returns-clause-taken c = omega (arith, ap (λ (p : PipeState). p.taken) c.self.view_is, c.saturating_add-self-inside.ensures)
