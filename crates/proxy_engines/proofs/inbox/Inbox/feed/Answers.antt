use Rattle.std.proofs.Common.{sym, refl, ◌∙◌}
use Rattle.proxy_engines.proofs.InboxLemmas.{holds-fed, fed_ok}
use Rattle.proxy_engines.proofs.inbox.Inbox.feed.Goals as goal

pub returns-else-is_err-clause-holds : goal.returns-else-is_err-clause-holds
returns-else-is_err-clause-holds g c =
    let ok = fed_ok _ c.feed.result (sym c.is_err.ensures.value ∙ c.if-is_err.false) c.feed.ensures.ok in
    λ b rs h. holds-fed _ _ b rs refl c.feed.ensures.refusal (rw c.deref.ensures.value at ok) (rw (← c.self.view_is) at h)
