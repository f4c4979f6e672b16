use Rattle.std.proofs.Common.{◌∙◌, ap, refl}
use Rattle.proxy_engines.specs.Ends.{InboxState}
use Rattle.proxy_engines.proofs.InboxLemmas.{cut-holds}
use Rattle.proxy_engines.proofs.inbox.Inbox.into_rest.Goals as goal

pub returns-clause-cut : goal.returns-clause-cut
returns-clause-cut g c =
    let none = ap (λ (z : InboxState). z.values.refusal) c.self.view_is ∙ c.requires in
    rw (← c.self.view_is) (λ b rs h. cut-holds _ _ b rs none refl c.begin_behind.ensures.refusal c.begin_behind.ensures.stands h)
