-- When a client's engine owes nothing and is owed nothing.
use Rattle.std.specs.Prelude.{◌≡◌, ◌-◌, [], None}
use Rattle.resp_core.specs.ReaderState.{unread_bytes}
use Rattle.proxy_engines.specs.Client.{Client}
use Rattle.proxy_engines.specs.Ends.{InboxState}

-- what the end read is used up: of no byte a request wasn't made
pub record IsUsedUp (inbox : InboxState) : Type 0 where
  pub fed : inbox.fresh ≡ []
  pub whole : unread_bytes inbox.values ≡ 0

-- Each request that it accepted is answered, each answer is written, and no request or byte of one waits.
pub record IsAtRest (engine : Client) : Type 0 where
  pub answered : engine.accepted - engine.handed ≡ 0
  pub written : engine.outbox.pending ≡ []
  pub none_waits : engine.next ≡ None
  pub used : IsUsedUp engine.inbox
