use Rattle.std.proofs.Common.{◌≤◌, length, sym, ap, ◌∙◌, subst}
use Rattle.upstream_pipe.specs.Pipe.{PipeState}
use Rattle.upstream_pipe.proofs.pipe.Pipe.waiting.Goals as goal

pub returns-clause-parts : goal.returns-clause-parts
returns-clause-parts c = c.len.ensures ∙ c.self.inside.waiting.ok.0 ∙ ap (λ (p : PipeState). length p.waiting) c.self.view_is

pub returns-clause-limit : goal.returns-clause-limit
returns-clause-limit c = subst (λ n. n ≤ 1024) (sym c.len.ensures) c.self.invariant.0
