use Rattle.std.proofs.Common.{map, refl, rules, arith, ap, ◌∙◌}
use Rattle.std.proofs.lemmas.Grind.{common_steps}
use Rattle.upstream_pipe.specs.Pipe.{PipeState, owner_in}
use Rattle.upstream_pipe.proofs.pipe.Pipe.fault.Goals as goal

pub returns : goal.returns
returns c = record {
  flying = grind (arith, common_steps);
  waiting = c.in_ok-waiting.ensures.ok ∙ ap (λ (p : PipeState). map owner_in p.waiting) c.self.view_is;
  empty = grind (arith, common_steps);
  epoch = grind (arith, common_steps);
  taken = refl;
  room = grind (arith, common_steps);
  stale = grind (arith, common_steps);
  spent = grind (arith, common_steps);
  memory = search rules;
  idle = search rules;
  err = search rules;
}
