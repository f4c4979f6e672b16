-- What a worker's clients and hosts keep of their sockets' logs.
use Rattle.std.proofs.Common.{◌≡◌, ◌≢◌, ◌⊎◌, ◌∙◌, ℕ, List, [], ◌∷◌, Some, None, eq-eqb, inl, inr, refl, sym}
use Rattle.std.specs.Prelude.{Option, Result}
use Rattle.proxy_history.specs.History.{History}
use Rattle.proxy_history.specs.OwnSteps.{connection_steps}
use Rattle.proxy_history.specs.declared.answer.Answer.{Answer}
use Rattle.proxy_history.specs.declared.event.Event.{Event}
use Rattle.proxy_history.specs.declared.event.Kind.{Kind}
use Rattle.journal_core.specs.Journal.{step_by}
use Rattle.proxy_devices.specs.Device.{ReadState, WriteState}
use Rattle.close_behind.specs.CloseBehind.{Behind}
use Rattle.proxy_engines.specs.ClientSteps.{OpensClient}
use Rattle.proxy_engines.specs.Client.{Client, Carries}
use Rattle.proxy_engines.specs.Ends.{RestState}
use Rattle.proxy_engines.specs.Socket.{IsLeft, IsRest}
use Rattle.proxy_engines.specs.Host.{HostEnds, HostOutboxState, LinkState, CarriesHost}
use Rattle.proxy_engines.specs.declared.client.Progress.{Progress}
use Rattle.engine_work.specs.declared.error.EngineError.{EngineError}
use Rattle.proxy_engines.specs.Keeps.{KeepsSocket, no_logs}
use Rattle.proxy_engines.specs.HostStep.{HostCall, HostState, Records, RestsHost, StepsHost, WorksHost, ends_of, given_up}
use Rattle.proxy_engines.proofs.CallerLemmas as engines
use Rattle.proxy_connections.specs.Sockets.{IsCarried, CarriesItsSocket, KeepsHost, MayDrain, OpensSocket}

-- CLIENTS

-- an engine that takes in nothing more, or is as it was, keeps its socket
pub KeepsSocket-may_drain : (old new : Client) (H : History) → MayDrain old new → KeepsSocket old new H H
KeepsSocket-may_drain old new H (inl same) = rw same (engines.KeepsSocket-same old H)
KeepsSocket-may_drain old new H (inr drained) = rw drained (engines.KeepsSocket-drained old H)

-- one step of a client: it may drain, keeps its socket, and may drain
pub KeepsSocket-step : (a b c d : Client) (H H' : History) → MayDrain a b → KeepsSocket b c H H' → MayDrain c d → KeepsSocket a d H H'
KeepsSocket-step a b c d H H' first keeps last =
    engines.KeepsSocket-then a b d H H H' (KeepsSocket-may_drain a b H first)
    (engines.KeepsSocket-then b c d H H' H' keeps (KeepsSocket-may_drain c d H' last))

-- HOSTS

pub KeepsHost-same : (e : HostEnds) (H : History) → KeepsHost e e H H
KeepsHost-same e H = engines.KeepsLink-same no_logs e H

pub KeepsHost-then : (a b c : HostEnds) (x y z : History) → KeepsHost a b x y → KeepsHost b c y z → KeepsHost a c x z
KeepsHost-then a b c x y z p q = engines.KeepsLink-then no_logs a b c x y z p q

-- a fault of a host, recorded or left to the next step, keeps its link
pub KeepsHost-records : (call : HostCall) (kind : Kind) → Records call kind → KeepsHost (ends_of call.old) (ends_of call.new) call.before call.after
KeepsHost-records call kind r = engines.KeepsLink-records no_logs call kind r

-- an engine that is given up has the ends that it had
pub KeepsHost-given_up : (old new : HostState) (before after : History) (fault : Option Kind) → old.fault ≡ fault
    → KeepsHost (ends_of (given_up old)) (ends_of new) before after → KeepsHost (ends_of old) (ends_of new) before after
KeepsHost-given_up old new before after None is keeps = rw is at keeps
KeepsHost-given_up old new before after (Some kind) is keeps = rw is at keeps

-- a step of a host keeps its link
pub KeepsHost-steps : (unasked : HostOutboxState → LinkState → Type 0) (call : HostCall) (result : Result Progress EngineError)
    → (StepsHost unasked call result ⊎ RestsHost call result) → KeepsHost (ends_of call.old) (ends_of call.new) call.before call.after
KeepsHost-steps unasked call result s = engines.KeepsLink-steps no_logs unasked call result s

-- what was sent without a fault to be recorded, or nothing, keeps a link
pub KeepsHost-sends : (unasked : HostOutboxState → LinkState → Type 0) (call : HostCall) (result : Result Progress EngineError)
    → (call.old.fault ≡ None → WorksHost unasked call result) → (call.old.fault ≢ None → (call.new ≡ call.old) × (call.after ≡ call.before))
    → KeepsHost (ends_of call.old) (ends_of call.new) call.before call.after
KeepsHost-sends unasked call result sent rests = engines.KeepsLink-sends no_logs unasked call result call.old.fault refl sent rests

-- a link over a socket from which nothing was read, and to which nothing was written, is kept from its first byte on
pub KeepsHost-attached : (old new : HostState) (k : LinkState) → old.link ≡ None → new.outbox ≡ old.outbox → new.link ≡ Some k
    → k.inbox.told ≡ [] → k.taken ≡ []
    → ((H : History) → CarriesHost old.outbox None H [] [] → CarriesHost new.outbox new.link H [] [])
    → (H : History) → KeepsHost (ends_of old) (ends_of new) H H
KeepsHost-attached old new k none outbox some told taken carries H =
    let is_carried : CarriesHost old.outbox None H [] [] → CarriesHost old.outbox (Some k) H [] [] = rw (outbox, some) at carries H in
    rw (none, outbox, some) (engines.hosts_keep_links.attaches old.outbox k H no_logs is_carried (rw (told, taken) refl))

-- OPENINGS

own_opening : (c pass : ℕ) → connection_steps c (step_by pass Event.Opened (Answer.Opened c) ∷ []) ≡ step_by pass Event.Opened (Answer.Opened c) ∷ []
own_opening c pass = rw (eq-eqb c c refl) refl

opened_some : (c pass : ℕ) → connection_steps c (step_by pass Event.Opened (Answer.Opened c) ∷ []) ≢ []
opened_some c pass none = let is = own_opening c pass in absurd cc

module _ (pass : ℕ) (before after : History) (reader : ReadState) (writer : WriteState) (behind : Behind) (e : Client) (o : OpensClient pass before after reader writer behind e) where
  -- an engine was opened over a new socket
  pub opens_socket : Carries e after [] [] → reader.told ≡ [] → writer.taken ≡ [] → OpensSocket e before after
  opens_socket carries told taken = record {
    later = step_by pass Event.Opened (Answer.Opened e.conn) ∷ [];
    adds = o.opened;
    alone = own_opening e.conn pass;
    some = opened_some e.conn pass;
    fresh = o.fresh;
    carries = record {
      pasts = [];
      legal = tt;
      carries = engines.sockets_carry_logs.begins e after no_logs
          (record { taken = []; told = []; taken_is = o.taken_is ∙ taken; told_is = o.told_is ∙ told; so = carries });
    };
  }

  -- an engine was opened over a socket that was between two connections
  pub reopens_socket : (rest : RestState) (told taken : List ℕ) → rest.behind ≡ behind → ((bytes : List ℕ) → IsRest rest bytes → Carries e after [] bytes)
      → reader.told ≡ told → writer.taken ≡ taken → IsCarried rest (record { told = told; taken = taken }) → OpensSocket e before after
  reopens_socket rest told taken same carries is_told is_taken carried = record {
    later = step_by pass Event.Opened (Answer.Opened e.conn) ∷ [];
    adds = o.opened;
    alone = own_opening e.conn pass;
    some = opened_some e.conn pass;
    fresh = o.fresh;
    carries = record {
      pasts = carried.pasts;
      legal = carried.legal;
      carries = engines.clients_keep_sockets.opens carried.pasts e after rest no_logs (o.behind_is ∙ sym same) carries
          (rw (o.told_is ∙ is_told, o.taken_is ∙ is_taken) carried.between);
    };
  }

-- a socket that a served engine left is between two connections
pub leaves_socket : (e : Client) (rest : RestState) (told taken : List ℕ) → CarriesItsSocket e
    → ((H : History) (gave got : List ℕ) → Carries e H gave got → IsLeft e.conn e.behind H gave got rest)
    → told ≡ e.inbox.told → taken ≡ e.outbox.taken → IsCarried rest (record { told = told; taken = taken })
leaves_socket e rest told taken served left is_told is_taken =
    let all = served.carries in
    record {
      pasts = record { conn = e.conn; steps = served.steps } ∷ all.pasts;
      legal = (served.of_pass, all.legal);
      between = rw (is_told, is_taken)
          (engines.clients_keep_sockets.leaves all.pasts e served.steps rest no_logs (left served.steps) all.carries);
    }
