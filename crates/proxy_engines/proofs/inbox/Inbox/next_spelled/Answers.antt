use Rattle.std.proofs.Common.{◌≡◌, ◌∙◌, ap}
use Rattle.resp_core.specs.Command.{command_of}
use Rattle.resp_core.specs.ReaderState.{ReaderState}
use Rattle.proxy_engines.specs.Ends.{InboxState}
use Rattle.proxy_engines.proofs.InboxLemmas.{holds-value}
use Rattle.proxy_engines.proofs.inbox.Inbox.next_spelled.Goals as goal

pub returns-clause-some : goal.returns-clause-some
returns-clause-some g c =
    let values : c.self.inside.values ≡ c.feed.new.self.values = ap (λ (z : InboxState). z.values) c.self.view_is in
    let fresh = ap (λ (z : InboxState). z.fresh) c.self.view_is ∙ c.in_ok-feed.ensures.fresh in
    let gives = rw c.in-Some.is at c.in_ok-command.ensures.given in
    let untold = c.in_ok-command.ensures.refusal ∙ ap (λ (z : ReaderState). z.refusal) values ∙ c.in_ok-feed.ensures.whole in
    λ b rs h. holds-value c.feed.new.self _ (command_of c.in-Some.command) b rs c.in_ok-feed.ensures.fresh fresh c.in_ok-feed.ensures.whole untold (rw values at gives.stands) (c.in_ok-feed.ensures.holds b rs h)
