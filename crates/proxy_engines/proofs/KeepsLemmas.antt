-- What an engine keeps of its socket's logs, over any number of calls.
use Rattle.std.proofs.Common.{◌≡◌, ◌≢◌, ◌∙◌, ◌⊎◌, false, ℕ, Bool, List, [], ◌∷◌, ◌++◌, Option, Some, None, ap, append_assoc, append-nil, eq-eqb, inl, inr, refl, subst, sym, true}
use Rattle.std.specs.Prelude.{Result}
use Rattle.std.proofs.lemmas.List.Elements.{filter-append}
use Rattle.proxy_history.specs.History.{History, Step}
use Rattle.proxy_history.specs.OwnSteps.{host_steps, is_connection_step, is_of_host}
use Rattle.proxy_history.specs.declared.event.Event.{Event}
use Rattle.proxy_history.specs.declared.answer.Answer.{Answer}
use Rattle.proxy_history.specs.declared.event.Kind.{Kind}
use Rattle.journal_core.specs.Journal.{step_by}
use Rattle.proxy_engines.specs.Client.{Client, Carries, Goes}
use Rattle.close_behind.specs.CloseBehind.{Behind}
use Rattle.proxy_engines.specs.Socket.{Past, IsLeft, IsRest, WentOn}
use Rattle.proxy_engines.specs.Ends.{RestState}
use Rattle.proxy_engines.specs.Host.{HostEnds, HostMove, HostOutboxState, LinkState, CarriesHost, GoesOn}
use Rattle.proxy_engines.specs.HostStep.{HostCall, Records, RestsHost, StepsHost, WorksHost, behind, ends_of, move_of, up_to}
use Rattle.proxy_engines.specs.Moves.{AsTold}
use Rattle.proxy_engines.specs.Logs.{Logs, client_logs, link_logs, CarriesSocketLogs}
use Rattle.proxy_engines.specs.Keeps.{KeepsLink, KeepsSocket, IsBetween, ClientsKeepSockets, HostsKeepLinks}
use Rattle.proxy_engines.specs.declared.client.Progress.{Progress}
use Rattle.engine_work.specs.declared.error.EngineError.{EngineError}
use Rattle.std.specs.Io.KnownBytes.{Keeps}
use Rattle.proxy_devices.specs.Device.{Passed}
use Rattle.proxy_engines.proofs.FlushLemmas.{flushed_goes}
use Rattle.proxy_engines.proofs.LogsLemmas.{hosts_carry_logs, sockets_carry_logs}

-- CLIENTS

pub KeepsSocket-same : (e : Client) (H : History) → KeepsSocket e e H H
KeepsSocket-same e H = record { steps = []; conn = refl; adds = refl; alone = refl; carries = λ pasts begun k. k }

pub KeepsSocket-then : (a b c : Client) (x y z : History) → KeepsSocket a b x y → KeepsSocket b c y z → KeepsSocket a c x z
KeepsSocket-then a b c x y z p q = record {
  steps = q.steps ++ p.steps;
  conn = q.conn ∙ p.conn;
  adds = rw (q.adds, p.adds) (sym (append_assoc q.steps p.steps x));
  alone = filter-append (λ (s : Step). is_connection_step a.conn s.event s.answer) q.steps p.steps
      ∙ rw (p.alone, (rw p.conn at q.alone)) refl;
  carries = λ pasts begun k. q.carries pasts begun (p.carries pasts begun k);
}

goes : (old new : Client) (H H' : History) (moved : Bool) → Goes old new H H' moved → KeepsSocket old new H H'
goes old new H H' moved g = record {
  steps = g.steps;
  conn = g.conn;
  adds = g.adds;
  alone = g.alone;
  carries = λ pasts begun k. sockets_carry_logs.moves pasts old new H H' moved begun g k;
}

-- moves keep, whether it is told that anything moved
pub KeepsSocket-told : (old new : Client) (H H' : History) (told : Option Bool) → AsTold (Goes old new H H') told → KeepsSocket old new H H'
KeepsSocket-told old new H H' None g = goes old new H H' g.0 g.1
KeepsSocket-told old new H H' (Some moved) g = goes old new H H' moved g

-- a drain keeps
pub KeepsSocket-drained : (e : Client) (H : History) → KeepsSocket e (record e { is_drained = true }) H H
KeepsSocket-drained e H = record {
  steps = [];
  conn = refl;
  adds = refl;
  alone = refl;
  carries = λ pasts begun k. sockets_carry_logs.drains pasts e H begun k;
}

keeps_known : (held : Option (List ℕ)) → Keeps held held
keeps_known None = tt
keeps_known (Some bytes) = refl

-- where its writer passes on what it took, an engine keeps
pub KeepsSocket-passes : (e : Client) (passed : Passed) (H : History) → KeepsSocket e (record e { outbox = record e.outbox { passed = passed } }) H H
KeepsSocket-passes e passed H =
    goes e (record e { outbox = record e.outbox { passed = passed } }) H H false
    (flushed_goes e (record e.outbox { passed = passed }) H refl (keeps_known e.outbox.held) refl)

-- a socket that an engine leaves is between two connections
leaves : (pasts : List Past) (e : Client) (H : History) (rest : RestState) (begun : Logs)
    → ((taken told : List ℕ) → Carries e H taken told → IsLeft e.conn e.behind H taken told rest)
    → CarriesSocketLogs pasts e H begun → IsBetween (record { conn = e.conn; steps = H } ∷ pasts) rest begun (client_logs e)
leaves pasts e H rest begun left s =
    let is_left = left s.so.gave (s.so.left ++ s.so.got) s.so.carries in
    record {
      taken = s.taken;
      told = s.told;
      taken_is = s.taken_is;
      told_is = s.told_is;
      so = record {
        left = is_left.rest;
        rest_is = is_left.stands;
        went_on = subst (λ (z : Behind). WentOn z (record { conn = e.conn; steps = H } ∷ pasts) s.taken s.told is_left.rest) (sym is_left.behind_is) (record {
          took = s.so.took;
          came = s.so.came;
          left = s.so.left;
          gave = s.so.gave;
          got = s.so.got;
          held = rest;
          before = s.so.before;
          is_left = is_left;
          taken_is = s.so.taken_is;
          bytes_are = s.so.bytes_are;
          rest_is = refl;
        });
      };
    }

-- an engine that is opened between two connections goes on from there
opens : (pasts : List Past) (e : Client) (H : History) (rest : RestState) (begun : Logs)
    → e.behind ≡ rest.behind → ((bytes : List ℕ) → IsRest rest bytes → Carries e H [] bytes)
    → IsBetween pasts rest begun (client_logs e) → CarriesSocketLogs pasts e H begun
opens pasts e H rest begun same opened s = record {
  taken = s.taken;
  told = s.told;
  taken_is = s.taken_is;
  told_is = s.told_is;
  so = record {
    took = s.taken;
    came = s.told;
    left = s.so.left;
    gave = [];
    got = [];
    before = subst (λ (z : Behind). WentOn z pasts s.taken s.told s.so.left) (sym same) s.so.went_on;
    carries = rw (append-nil s.so.left) (opened s.so.left s.so.rest_is);
    taken_is = sym (append-nil s.taken);
    bytes_are = sym (append-nil s.told);
  };
}

pub clients_keep_sockets : ClientsKeepSockets
clients_keep_sockets = record {
  same = KeepsSocket-same;
  then = KeepsSocket-then;
  moves = KeepsSocket-told;
  drains = KeepsSocket-drained;
  passes = KeepsSocket-passes;
  leaves = leaves;
  opens = opens;
}

-- HOSTS

pub KeepsLink-same : (begun : Logs) (e : HostEnds) (H : History) → KeepsLink begun e e H H
KeepsLink-same begun e H = record { steps = []; host = refl; adds = refl; alone = refl; carries = λ k. k }

pub KeepsLink-then : (begun : Logs) (a b c : HostEnds) (x y z : History) → KeepsLink begun a b x y → KeepsLink begun b c y z → KeepsLink begun a c x z
KeepsLink-then begun a b c x y z p q = record {
  steps = q.steps ++ p.steps;
  host = q.host ∙ p.host;
  adds = rw (q.adds, p.adds) (sym (append_assoc q.steps p.steps x));
  alone = filter-append (λ (s : Step). is_of_host a.outbox.host s.event) q.steps p.steps ∙ rw (p.alone, (rw p.host at q.alone)) refl;
  carries = λ k. q.carries (p.carries k);
}

same_steps : (begun : Logs) (a b : HostEnds) (x y : History) → b ≡ a → y ≡ x → KeepsLink begun a b x y
same_steps begun a b x y e f = rw (e, f) (KeepsLink-same begun a x)

goes_on : (begun : Logs) (move : HostMove) (moved : Bool) → GoesOn move moved → KeepsLink begun move.old move.new move.before move.after
goes_on begun move moved g = record {
  steps = g.steps;
  host = g.host;
  adds = g.adds;
  alone = g.alone;
  carries = λ k. hosts_carry_logs.moves move moved begun g k;
}

-- its fault is a host's own step
own_fault : (h pass epoch moment : ℕ) (kind : Kind) (answer : Answer)
    → host_steps h (step_by pass (Event.Failed h epoch kind moment) answer ∷ []) ≡ step_by pass (Event.Failed h epoch kind moment) answer ∷ []
own_fault h pass epoch moment kind answer = rw (eq-eqb h h refl) refl

pub KeepsLink-records : (begun : Logs) (call : HostCall) (kind : Kind) → Records call kind
    → KeepsLink begun (ends_of call.old) (ends_of call.new) call.before call.after
KeepsLink-records begun call kind r = record {
  steps = step_by r.fails.pass (Event.Failed call.old.outbox.host call.old.outbox.epoch kind call.moment) r.fails.answer ∷ [];
  host = ap (λ (l : HostOutboxState). l.host) r.fails.outbox;
  adds = r.fails.adds;
  alone = own_fault call.old.outbox.host r.fails.pass call.old.outbox.epoch call.moment kind r.fails.answer;
  carries = λ k. rw r.fails.link (hosts_carry_logs.fails (move_of call) kind begun begun r.fails k);
}

module _ (begun : Logs) (unasked : HostOutboxState → LinkState → Type 0) where
  works : (call : HostCall) (result : Result Progress EngineError) → WorksHost unasked call result
      → KeepsLink begun (ends_of call.old) (ends_of call.new) call.before call.after
  works call result w =
      KeepsLink-then begun (ends_of call.old) (ends_of w.last) (ends_of call.new) call.before w.between call.after
      (goes_on begun (move_of (up_to call w.last w.between)) w.moved w.goes)
      (elim w.ends [
        | inl (outbox, link, same, _, _) ↦ same_steps begun (ends_of w.last) (ends_of call.new) w.between call.after (rw (outbox, link) refl) same
        | inr (kind, _, recorded, _, _) ↦ KeepsLink-records begun (behind call w.last w.between) kind recorded
      ])

  stepped : (call : HostCall) (result : Result Progress EngineError) → StepsHost unasked call result
      → KeepsLink begun (ends_of call.old) (ends_of call.new) call.before call.after
  stepped call result s =
      KeepsLink-then begun (ends_of call.old) (ends_of s.first) (ends_of call.new) call.before s.between call.after
      (elim s.begins [
        | inl (is_first, is_before, _) ↦ same_steps begun (ends_of call.old) (ends_of s.first) call.before s.between (ap ends_of is_first) is_before
        | inr (kind, _, recorded, _) ↦ KeepsLink-records begun (up_to call s.first s.between) kind recorded
      ])
      (works (behind call s.first s.between) s.answer s.works)

  pub KeepsLink-steps : (call : HostCall) (result : Result Progress EngineError) → (StepsHost unasked call result ⊎ RestsHost call result)
      → KeepsLink begun (ends_of call.old) (ends_of call.new) call.before call.after
  KeepsLink-steps call result (inl s) = stepped call result s
  KeepsLink-steps call result (inr (_, same, steps, _)) = same_steps begun (ends_of call.old) (ends_of call.new) call.before call.after (ap ends_of same) steps

  -- what was sent without a fault to be recorded, or nothing, keeps a link
  pub KeepsLink-sends : (call : HostCall) (result : Result Progress EngineError) (fault : Option Kind) → call.old.fault ≡ fault
      → (call.old.fault ≡ None → WorksHost unasked call result)
      → (call.old.fault ≢ None → (call.new ≡ call.old) × (call.after ≡ call.before))
      → KeepsLink begun (ends_of call.old) (ends_of call.new) call.before call.after
  KeepsLink-sends call result None is sent rests = works call result (sent is)
  KeepsLink-sends call result (Some kind) is sent rests =
      let (same, steps) = rests (λ none. let some = sym is ∙ none in absurd cc) in
      same_steps begun (ends_of call.old) (ends_of call.new) call.before call.after (ap ends_of same) steps

-- a link is kept from the logs on over which it was attached
attaches : (outbox : HostOutboxState) (link : LinkState) (H : History) (begun : Logs)
    → (CarriesHost outbox None H [] [] → CarriesHost outbox (Some link) H [] []) → link_logs link ≡ begun
    → KeepsLink begun (record { outbox = outbox; link = None }) (record { outbox = outbox; link = Some link }) H H
attaches outbox link H begun carries is = record {
  steps = [];
  host = refl;
  adds = refl;
  alone = refl;
  carries = λ k. rw (← is) (hosts_carry_logs.begins outbox link H (carries k));
}

pub hosts_keep_links : HostsKeepLinks
hosts_keep_links = record {
  same = KeepsLink-same;
  then = KeepsLink-then;
  records = KeepsLink-records;
  attaches = attaches;
}
