use Rattle.proxy_engines.specs.Client.{Client}
use Rattle.std.proofs.Common.{ap, refl, ◌∙◌, rules}
use Rattle.proxy_engines.proofs.ClientMoves.{fetched_goes, fetched_holds, kept_goes}
use Rattle.proxy_engines.proofs.client.ClientEngine.fetch.Goals as goal

pub returns-in-Ok-clause-goes : goal.returns-in-Ok-clause-goes
returns-in-Ok-clause-goes g c =
    λ H. rw (c.replace.ensures.after, ← c.self.view_is)
    (fetched_goes _ c.next_request.new.self c.in-Ok.next H (rw (← c.self.view_is) at c.requires.stage) (rw (← c.self.view_is) at c.requires.none) (rw (← c.self.view_is) at c.requires.reads) c.next_request.ensures.keeps.0 c.next_request.ensures.keeps.1
    (fetched_holds c.self.inside.inbox c.next_request.new.self c.in-Ok.next c.in-Ok.ensures.next.some c.in-Ok.ensures.next.none))

pub returns-in-Err-clause-goes : goal.returns-in-Err-clause-goes
returns-in-Err-clause-goes g c =
    λ H. rw (← c.self.view_is)
    (kept_goes _ c.next_request.new.self H (rw (← c.self.view_is) at c.requires.stage) c.next_request.ensures.keeps.0 c.next_request.ensures.keeps.1 c.in-Err.ensures.err.0)

pub returns-in-Err-clause-fetches : goal.returns-in-Err-clause-fetches
returns-in-Err-clause-fetches g c =
    record {
      keeps = (search rules, ap (λ (e : Client). e.stage) c.self.view_is ∙ c.requires.stage, (c.next_request.ensures.keeps.0.2 ∙ ap (λ (e : Client). e.inbox.counts) c.self.view_is, ap (λ (e : Client). e.outbox.counts) c.self.view_is));
      ends = rw (← c.self.view_is) (c.next_request.ensures.keeps.0, refl);
      next = tt;
      err = refl;
    }

pub returns-in-Ok-clause-fetches : goal.returns-in-Ok-clause-fetches
returns-in-Ok-clause-fetches g c =
    record {
      keeps = (search rules, ap (λ (e : Client). e.stage) c.self.view_is ∙ c.requires.stage, (c.next_request.ensures.keeps.0.2 ∙ ap (λ (e : Client). e.inbox.counts) c.self.view_is, ap (λ (e : Client). e.outbox.counts) c.self.view_is));
      ends = rw (← c.self.view_is) (c.next_request.ensures.keeps.0, refl);
      next = record { some = search rules; none = search rules };
      err = tt;
    }
