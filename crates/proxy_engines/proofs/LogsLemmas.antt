-- What an engine carries over the logs of its devices.
use Rattle.std.proofs.Common.{◌≡◌, ◌∙◌, ℕ, true, List, [], ◌∷◌, ◌++◌, Option, Some, None, ap, append_assoc, append-nil, sym, subst}
use Rattle.proxy_history.specs.History.{History}
use Rattle.proxy_history.specs.OwnSteps.{host_steps}
use Rattle.proxy_engines.specs.Client.{Carries}
use Rattle.proxy_engines.specs.Socket.{CarriesOn}
use Rattle.proxy_engines.specs.Host.{HostOutboxState, LinkState, CarriesHost, ReadsOn, WritesOn}
use Rattle.proxy_engines.specs.Logs.{Logs, Since, client_logs, link_logs, CarriesHostLogs, ClientsCarryLogs, HostsCarryLogs, SocketsCarryLogs}
use Rattle.proxy_engines.proofs.ClientMoves.{carries_beside, drained_carries, log-append}
use Rattle.proxy_engines.proofs.ClientLemmas.{accepted_first}
use Rattle.proxy_engines.proofs.LeaveOthersLemmas.{others_leave_hosts}
use Rattle.proxy_engines.proofs.SocketLemmas.{socket_begins, socket_moves, socket_stays, socket_goes_over, socket_asks_in_order, socket_answers_in_order}

-- nothing was moved yet
begins : (now : Logs) (P : List ℕ → List ℕ → Type 0) → P [] [] → Since now now P
begins now P p = record { taken = []; told = []; taken_is = sym (append-nil now.taken); told_is = sym (append-nil now.told); so = p }

-- more was moved
moves_on : (begun old new : Logs) (P Q : List ℕ → List ℕ → Type 0) (gave got : List ℕ) → new.taken ≡ old.taken ++ gave → new.told ≡ old.told ++ got
    → ((t b : List ℕ) → P t b → Q (t ++ gave) (b ++ got)) → Since begun old P → Since begun new Q
moves_on begun old new P Q gave got took told f s = record {
  taken = s.taken ++ gave;
  told = s.told ++ got;
  taken_is = log-append begun.taken old.taken new.taken s.taken gave s.taken_is took;
  told_is = log-append begun.told old.told new.told s.told got s.told_is told;
  so = f s.taken s.told s.so;
}

-- the same logs, of which something else holds
so_then : (begun now : Logs) (P Q : List ℕ → List ℕ → Type 0) → ((t b : List ℕ) → P t b → Q t b) → Since begun now P → Since begun now Q
so_then begun now P Q f s = record { taken = s.taken; told = s.told; taken_is = s.taken_is; told_is = s.told_is; so = f s.taken s.told s.so }

-- CLIENTS

pub clients_carry_logs : ClientsCarryLogs
clients_carry_logs = record {
  begins = λ e H k. begins (client_logs e) (Carries e H) k;
  moves = λ old new H H' moved begun g s. moves_on begun (client_logs old) (client_logs new) (Carries old H) (Carries new H') g.gave g.got g.writes.taken g.reads.told (λ t b k. g.carries t b k) s;
  drains = λ e H begun s. so_then begun (client_logs e) (Carries e H) (Carries (record e { is_drained = true }) H) (λ t b k. drained_carries e H t b k) s;
  stays = λ e H later begun others s. so_then begun (client_logs e) (Carries e H) (Carries e (later ++ H)) (λ t b k. carries_beside e H later others t b k) s;
  serves = λ e H begun s. record {
    told = s.told;
    told_is = s.told_is;
    taken_is = ap (λ z. z ++ e.outbox.pending) s.taken_is ∙ append_assoc begun.taken s.taken e.outbox.pending ∙ ap (λ z. begun.taken ++ z) s.so.out_is;
    asked_are = λ rs are. accepted_first e H s.taken s.told s.so rs are;
  };
}

-- SOCKETS

pub sockets_carry_logs : SocketsCarryLogs
sockets_carry_logs = record {
  begins = λ e H begun s. so_then begun (client_logs e) (Carries e H) (CarriesOn [] e H) (λ t b k. socket_begins e H t b k) s;
  moves = λ ps old new H H' moved begun g s. moves_on begun (client_logs old) (client_logs new) (CarriesOn ps old H) (CarriesOn ps new H') g.gave g.got g.writes.taken g.reads.told (λ t b k. socket_moves ps old new H H' moved t b g k) s;
  drains = λ ps e H begun s. so_then begun (client_logs e) (CarriesOn ps e H) (CarriesOn ps (record e { is_drained = true }) H) (λ t b k. record {
    took = k.took;
    came = k.came;
    left = k.left;
    gave = k.gave;
    got = k.got;
    before = k.before;
    carries = drained_carries e H k.gave (k.left ++ k.got) k.carries;
    taken_is = k.taken_is;
    bytes_are = k.bytes_are;
  }) s;
  stays = λ ps e H later begun others s. so_then begun (client_logs e) (CarriesOn ps e H) (CarriesOn ps e (later ++ H)) (λ t b k. socket_stays ps e H later t b others k) s;
  goes_over = λ ps old new H H' r begun over s.
      subst (λ (z : Logs). Since begun z (CarriesOn (record { conn = old.conn; steps = H } ∷ ps) new H')) (sym over.logs)
      (so_then begun (client_logs old) (CarriesOn ps old H) (CarriesOn (record { conn = old.conn; steps = H } ∷ ps) new H') (λ t b k. socket_goes_over ps old new H H' r t b over.leaves over.behind_is over.opens k) s);
  serves = λ ps e H begun s. record {
    told = s.told;
    told_is = s.told_is;
    taken_is = ap (λ z. z ++ e.outbox.pending) s.taken_is ∙ append_assoc begun.taken s.taken e.outbox.pending
        ∙ ap (λ z. begun.taken ++ z) (socket_answers_in_order ps e H s.taken s.told s.so);
    asked_are = λ rs are. socket_asks_in_order ps e H s.taken s.told s.so rs are;
  };
}

-- HOSTS

host_moves : (l l' : HostOutboxState) (j k : Option LinkState) (H H' : History) (begun : Logs) (gave got : List ℕ) → ReadsOn j k got → WritesOn j k gave
    → ((t b : List ℕ) → CarriesHost l j H t b → CarriesHost l' k H' (t ++ gave) (b ++ got)) → CarriesHostLogs l j H begun → CarriesHostLogs l' k H' begun
host_moves l l' None None H H' begun gave got reads writes f c = rw (reads, writes) at (f [] [] c)
host_moves l l' None (Some k) H H' begun gave got reads writes f c = absurd reads
host_moves l l' (Some j) None H H' begun gave got reads writes f c = absurd reads
host_moves l l' (Some j) (Some k) H H' begun gave got reads writes f c =
    moves_on begun (link_logs j) (link_logs k) (CarriesHost l (Some j) H) (CarriesHost l' (Some k) H') gave got writes.taken reads.told f c

host_fails : (l l' : HostOutboxState) (j : Option LinkState) (H H' : History) (begun : Logs) → ((t b : List ℕ) → CarriesHost l j H t b → CarriesHost l' None H' [] [])
    → CarriesHostLogs l j H begun → CarriesHost l' None H' [] []
host_fails l l' None H H' begun f c = f [] [] c
host_fails l l' (Some k) H H' begun f c = f c.taken c.told c.so

host_stays : (l : HostOutboxState) (k : Option LinkState) (H later : History) (begun : Logs) → host_steps l.host later ≡ [] → CarriesHostLogs l k H begun → CarriesHostLogs l k (later ++ H) begun
host_stays l None H later begun others c = others_leave_hosts l None H later [] [] others c
host_stays l (Some k) H later begun others c =
    so_then begun (link_logs k) (CarriesHost l (Some k) H) (CarriesHost l (Some k) (later ++ H)) (λ t b x. others_leave_hosts l (Some k) H later t b others x) c

pub hosts_carry_logs : HostsCarryLogs
hosts_carry_logs = record {
  begins = λ l k H c. begins (link_logs k) (CarriesHost l (Some k) H) c;
  moves = λ move moved begun g c. host_moves move.old.outbox move.new.outbox move.old.link move.new.link move.before move.after begun g.gave g.got g.reads g.writes g.carries c;
  fails = λ move kind begun next f c. host_fails move.old.outbox move.new.outbox move.old.link move.before move.after begun f.carries c;
  stays = host_stays;
  serves = λ l k H begun s. record {
    told = s.told;
    told_is = s.told_is;
    taken_is = ap (λ z. z ++ l.pending) s.taken_is ∙ append_assoc begun.taken s.taken l.pending ∙ ap (λ z. begun.taken ++ z) s.so.out_is;
    came_are = s.so.link_is;
  };
}
