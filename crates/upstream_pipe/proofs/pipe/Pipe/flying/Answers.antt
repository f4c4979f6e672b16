use Rattle.std.proofs.Common.{length, ap, ◌∙◌}
use Rattle.upstream_pipe.specs.Pipe.{PipeState}
use Rattle.upstream_pipe.proofs.pipe.Pipe.flying.Goals as goal

pub returns : goal.returns
returns c = c.len.ensures ∙ c.self.inside.flying.ok.0 ∙ ap (λ (p : PipeState). length p.flying) c.self.view_is
