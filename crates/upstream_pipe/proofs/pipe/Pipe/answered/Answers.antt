use Rattle.std.proofs.Common.{◌≡◌, rules, refl, arith, sym, ap, ◌∙◌}
use Rattle.std.proofs.lemmas.Grind.{common_steps}
use Rattle.upstream_pipe.specs.Pipe.{PipeState}
use Rattle.upstream_pipe.proofs.SentPartLemmas.{sent_answered}
use Rattle.upstream_pipe.proofs.pipe.Pipe.answered.Goals as goal

pub returns : goal.returns
returns c =
    let same : c.args.epoch ≡ c.args.self.now.epoch = c.if-epoch-self.false ∙ ap (λ (p : PipeState). p.epoch) c.self.view_is in
    record {
      place = λ sent count h. sent_answered c.args.self.now _ sent count c.in-Some.owner h
          (sym (ap (λ z. z.flying) c.self.view_is) ∙ c.in-Some.ensures.items);
      flying = sym (ap (λ z. z.flying) c.self.view_is) ∙ c.in-Some.ensures.items;
      stale = (λ is. search rules, λ other. absurd (other same));
      unasked = grind (arith, common_steps);
      refused = search rules;
      waiting = grind (arith, common_steps);
      epoch = grind (arith, common_steps);
      taken = grind (arith, common_steps);
      room = grind (arith, common_steps);
      err = search rules;
    }

pub returns-in_default : goal.returns-in_default
returns-in_default c =
    let same : c.args.epoch ≡ c.args.self.now.epoch = c.if-epoch-self.false ∙ ap (λ (p : PipeState). p.epoch) c.self.view_is in
    record {
      place = search rules;
      flying = search rules;
      stale = (λ is. absurd (cc is), λ other. absurd (other same));
      unasked = (λ is. (same, search rules), λ h. refl);
      refused = grind (arith, common_steps);
      waiting = grind (arith, common_steps);
      epoch = grind (arith, common_steps);
      taken = grind (arith, common_steps);
      room = grind (arith, common_steps);
      err = grind (arith, common_steps);
    }
