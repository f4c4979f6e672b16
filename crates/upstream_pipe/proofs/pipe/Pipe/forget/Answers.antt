use Rattle.std.proofs.Common.{map, ap, ◌∙◌}
use Rattle.upstream_pipe.specs.Pipe.{forgotten_owner}
use Rattle.upstream_pipe.proofs.SentPartLemmas.{sent_forgotten}
use Rattle.upstream_pipe.proofs.pipe.Pipe.forget.Goals as goal

pub returns-clause-places : goal.returns-clause-places
returns-clause-places c = λ sent count h. sent_forgotten c.args.self.now _ c.args.conn sent count h (c.forget_flying.ensures.items ∙ ap (λ z. map (forgotten_owner c.args.conn) z.flying) c.self.view_is)

pub returns-clause-flying : goal.returns-clause-flying
returns-clause-flying c = c.forget_flying.ensures.items ∙ ap (λ z. map (forgotten_owner c.args.conn) z.flying) c.self.view_is
