use Rattle.std.proofs.lemmas.Result.{IfOk-weaker}
use Rattle.proxy_engines.proofs.InboxLemmas.{gives_after}
use Rattle.proxy_engines.proofs.inbox.Inbox.next_request.Goals as goal

pub returns-in-None-clause-next : goal.returns-in-None-clause-next
returns-in-None-clause-next g c =
    IfOk-weaker c.next_read.result _ _ (λ next gives. gives_after c.args.self.now c.next_spelled.new.self c.next_read.new.self next (rw c.in-None.is at c.in_ok-command.ensures.none) gives) c.next_read.ensures.next
