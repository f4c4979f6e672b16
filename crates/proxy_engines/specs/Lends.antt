-- What an engine ends as, where a `&mut` to a device of its is returned.
use Rattle.std.specs.Prelude.{Option, Some, None}
use Rattle.std.specs.Borrow.{Lends, LendsIf, Fml, RattleType, MutBor}
use Rattle.std.specs.declared.io.traits.Read.{Ghosts as ReadGhosts}
use Rattle.std.specs.declared.io.traits.Write.{Ghosts as WriteGhosts}
use Rattle.proxy_devices.specs.declared.tally.Tally.{Ghosts as TallyGhosts}
use Rattle.proxy_devices.specs.declared.tally.ReadTally.{Ghosts as ReadTallyGhosts}
use Rattle.proxy_devices.specs.declared.tally.WriteTally.{Ghosts as WriteTallyGhosts}
use Rattle.proxy_devices.specs.Device.{ReadState, WriteState, reader_state, writer_state}
use Rattle.proxy_engines.specs.Ends.{InboxState, OutboxState}
use Rattle.proxy_engines.specs.Client.{Client}
use Rattle.proxy_engines.specs.Host.{LinkState}
use Rattle.proxy_engines.specs.HostStep.{HostState}
use Rattle.proxy_engines.specs.contracts.inbox.Inbox.{the_row as inbox_row}
use Rattle.proxy_engines.specs.contracts.outbox.Outbox.{the_row as outbox_row}
use Rattle.proxy_engines.specs.contracts.client.ClientEngine.{the_row as client_row}
use Rattle.proxy_engines.specs.contracts.link.Link.{the_row as link_row}
use Rattle.proxy_engines.specs.contracts.host.HostEngine.{the_row as host_row}

-- an end with this reader
abbrev pub with_reader : InboxState → ReadState → InboxState
with_reader inbox reader = record inbox { left = reader.remaining; told = reader.told; counts = reader.counts }

-- an end with this writer
abbrev pub with_writer : OutboxState → WriteState → OutboxState
with_writer outbox writer = record outbox { held = writer.contents; taken = writer.taken; passed = writer.passed; counts = writer.counts }

-- a client's engine with this reader
abbrev pub with_client_reader : Client → ReadState → Client
with_client_reader engine reader = record engine { inbox = with_reader engine.inbox reader }

-- a client's engine with this writer
abbrev pub with_client_writer : Client → WriteState → Client
with_client_writer engine writer = record engine { outbox = with_writer engine.outbox writer }

-- a link with this reader
abbrev pub with_link_reader : LinkState → ReadState → LinkState
with_link_reader link reader = record link { inbox = with_reader link.inbox reader }

-- a link with this writer
abbrev pub with_link_writer : LinkState → WriteState → LinkState
with_link_writer link writer = record link { held = writer.contents; taken = writer.taken; counts = writer.counts }

-- a host's engine with its link changed so, if it has one
abbrev pub with_link : HostState → (LinkState → LinkState) → HostState
with_link engine change = record engine { link = changed engine.link }
  where
    changed : Option LinkState → Option LinkState
    changed None = None
    changed (Some link) = Some (change link)

module _ (R : RattleType) (told : ReadTallyGhosts R.Denot) (read : ReadGhosts R.Denot) (counts : TallyGhosts R.Denot) where
  -- once the borrow r ends, the end's reader is the last one behind r
  abbrev pub lends_reader : MutBor InboxState → MutBor R.Denot → Fml
  lends_reader s r =
      Lends (inbox_row R told read counts) R s r (λ w. with_reader s.now (reader_state read.remaining told.told counts.counts w))

module _ (W : RattleType) (taken : WriteTallyGhosts W.Denot) (write : WriteGhosts W.Denot) (counts : TallyGhosts W.Denot) where
  -- once the borrow r ends, the end's writer is the last one behind r
  abbrev pub lends_writer : MutBor OutboxState → MutBor W.Denot → Fml
  lends_writer s r =
      Lends (outbox_row W taken write counts) W s r (λ w. with_writer s.now (writer_state write.contents taken.taken taken.passed counts.counts w))

module _ (R W : RattleType) (told : ReadTallyGhosts R.Denot) (read : ReadGhosts R.Denot) (counts : TallyGhosts R.Denot)
    (taken : WriteTallyGhosts W.Denot) (write : WriteGhosts W.Denot) (counts' : TallyGhosts W.Denot) where
  -- once the borrow r ends, the client's reader is the last one behind r
  abbrev pub lends_client_reader : MutBor Client → MutBor R.Denot → Fml
  lends_client_reader s r = Lends (client_row R W told read counts taken write counts') R s r
      (λ w. with_client_reader s.now (reader_state read.remaining told.told counts.counts w))

  -- the same of its writer
  abbrev pub lends_client_writer : MutBor Client → MutBor W.Denot → Fml
  lends_client_writer s r = Lends (client_row R W told read counts taken write counts') W s r
      (λ w. with_client_writer s.now (writer_state write.contents taken.taken taken.passed counts'.counts w))

  -- once the borrow r ends, the link's reader is the last one behind r
  abbrev pub lends_link_reader : MutBor LinkState → MutBor R.Denot → Fml
  lends_link_reader s r = Lends (link_row R W told read counts taken write counts') R s r
      (λ w. with_link_reader s.now (reader_state read.remaining told.told counts.counts w))

  -- once the borrow r ends, the link's writer is the last one behind r
  abbrev pub lends_link_writer : MutBor LinkState → MutBor W.Denot → Fml
  lends_link_writer s r = Lends (link_row R W told read counts taken write counts') W s r
      (λ w. with_link_writer s.now (writer_state write.contents taken.taken taken.passed counts'.counts w))

  -- the same of a host's engine, where it has a link; else it stays as it is
  abbrev pub lends_host_reader : MutBor HostState → Option (MutBor R.Denot) → Fml
  lends_host_reader s r = LendsIf (host_row R W told read counts taken write counts') R s r
      (λ w. with_link s.now (λ k. with_link_reader k (reader_state read.remaining told.told counts.counts w))) s.now

  -- the same of its writer
  abbrev pub lends_host_writer : MutBor HostState → Option (MutBor W.Denot) → Fml
  lends_host_writer s r = LendsIf (host_row R W told read counts taken write counts') W s r
      (λ w. with_link s.now (λ k. with_link_writer k (writer_state write.contents taken.taken taken.passed counts'.counts w))) s.now
