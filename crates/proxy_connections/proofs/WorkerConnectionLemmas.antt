-- A worker's clients and hosts stay served, and what a call changes of them.
use Rattle.std.specs.Prelude.{IfOk}
use Rattle.std.proofs.Common.{◌≡◌, ◌≢◌, ◌∙◌, ◌<◌, ℕ, List, [], ◌∷◌, ◌++◌, ◌+◌, Some, None, ap, arith, get_or, inl, inr, length, refl, set, subst, suc, sym, true, zero, Option, Result, Ok, Err}
use Rattle.std.proofs.lemmas.Bool.{cases_eq}
use Rattle.std.proofs.lemmas.List.{get_or-set_same, get_or-set_other, get_or_append_left, length-append, length-set, map-append}
use Rattle.std.proofs.Math.Logic.{∥∥₁_map}
use Rattle.std.proofs.Math.Seq.{get_or-append_seam}
use Rattle.std.proofs.lemmas.List.Elements.{filter-append}
use Rattle.slab.specs.Slab.{Slab, Updates, get, with_value}
use Rattle.slab.proofs.SlabLemmas.{Updates-with_value}
use Rattle.proxy_history.specs.History.{History, Step}
use Rattle.proxy_history.specs.OwnSteps.{connection_steps, host_steps, is_connection_step}
use Rattle.proxy_history.specs.SeenSteps.{history_of_seen}
use Rattle.proxy_history.specs.declared.answer.Answer.{Answer}
use Rattle.proxy_history.specs.declared.event.Event.{Event}
use Rattle.ticket_gate.specs.Turns.{SeatedFacts}
use Rattle.proxy_core.specs.Recorded.{Origin, IsLegalJournal}
use Rattle.journal_room.specs.LegalSteps.{IsOfLegalJournal, turns_of}
use Rattle.proxy_engines.specs.Keeps.{KeepsSocket, no_logs}
use Rattle.proxy_engines.specs.HostStep.{ends_of}
use Rattle.proxy_engines.proofs.CallerLemmas as engines
use Rattle.proxy_engines.specs.Client.{Client as Engine}
use Rattle.proxy_connections.specs.Sockets.{AreOfPass, CarriesItsSocket, KeepsHost, OpensSocket}
use Rattle.proxy_config.specs.declared.config.Host.{Host}
use Rattle.proxy_notices.specs.Places.{IsOf}
use Rattle.proxy_notices.specs.declared.place.Place.{Place}
use Rattle.proxy_connections.specs.Places.{KeepsToPlace}
use Rattle.proxy_connections.specs.Stages.{HasPassedAll, MayGoOver, PassesOn, is_lingering}
use Rattle.proxy_connections.proofs.StageLemmas.{KeepsSocket-passes_on}
use Rattle.proxy_connections.proofs.PlaceLemmas.{hosts_of-skip, hosts_of-take, keeps_of_connection, keeps_of_host}
use Rattle.proxy_connections.specs.WorkerConnections.{AddsClient, CarriesLink, IsAddressed, ChangesClient, ChangesHost, HasFailed, WorkerConnectionsState, IsAt, IsNewcomer, IsServing, KeepsClients, LetsGo, RiseTo, ServesClients, ServesHosts, number_of, steps_of}
use Rattle.proxy_connections.specs.declared.client_connection.ClientConnection.{ClientConnection}
use Rattle.proxy_connections.specs.declared.client_connection.Stepped.{Stepped}
use Rattle.proxy_connections.specs.declared.step_error.StepError.{StepError}
use Rattle.proxy_connections.specs.declared.host_connection.HostConnection.{HostConnection}

-- where a client may go over, the one of the same place may
pub may_go_over : (o : Option ClientConnection) (one two : ClientConnection) → o ≡ Some one → o ≡ Some two → MayGoOver two.engine → MayGoOver one.engine
may_go_over o one two is also may = let same : two ≡ one = cc in subst (λ (c : ClientConnection). MayGoOver c.engine) same may

-- STEPS OF OTHERS

some-append : (xs ys : History) → ys ≢ [] → xs ++ ys ≢ []
some-append [] ys some = some
some-append (x ∷ xs) ys some = λ none. absurd cc

-- a connection of which steps were made has steps also later
opened_later : (c : ℕ) (H later : History) → connection_steps c H ≢ [] → connection_steps c (later ++ H) ≢ []
opened_later c H later some =
    rw (filter-append (λ (s : Step). is_connection_step c s.event s.answer) later H)
    (some-append (connection_steps c later) (connection_steps c H) some)

-- clients stay served over steps that are none of theirs
pub clients_stay : (clients : Slab ClientConnection) (H later : History)
    → ((key : ℕ) (client : ClientConnection) → IsAt clients key client → connection_steps client.engine.conn later ≡ [])
    → ServesClients clients H → ServesClients clients (later ++ H)
clients_stay clients H later none s = record {
  carries = λ key client there.
      let all = s.carries key client there in
      record {
        pasts = all.pasts;
        legal = all.legal;
        carries = engines.sockets_carry_logs.stays all.pasts client.engine H later no_logs (none key client there) all.carries;
      };
  opened = λ key client there. opened_later client.engine.conn H later (s.opened key client there);
  apart = s.apart;
}

-- hosts stay served over steps that are none of theirs
pub hosts_stay : {place : Place} → {settings : List Host} → (hosts : List HostConnection) (H later : History) → ((h : ℕ) → host_steps h later ≡ [])
    → ServesHosts place settings hosts H → ServesHosts place settings hosts (later ++ H)
hosts_stay hosts H later none s = record {
  carries = λ i d within.
      let host : HostConnection = get_or hosts i d in
      engines.hosts_carry_logs.stays host.engine.outbox host.engine.link H later no_logs (none (number_of host)) (s.carries i d within);
  own = s.own;
  addressed = s.addressed;
  apart = s.apart;
}

-- CLIENTS

module _ (old new : Slab ClientConnection) (key : ℕ) (one two : ClientConnection) (H H' : History) (updates : Updates old new key (Some two)) (stands : IsAt old key one)
    (keeps : KeepsSocket one.engine two.engine H H') (s : ServesClients old H) where
  -- of another client no step was made
  none_of : (other : ℕ) (client : ClientConnection) → other ≢ key → IsAt old other client → connection_steps client.engine.conn keeps.steps ≡ []
  none_of other client differs there =
      (engines.clients_leave_others one.engine.conn keeps.steps keeps.alone).0 client.engine.conn
      (λ same. differs (s.apart other key client one there stands same))

  is_two : (other : ℕ) (client : ClientConnection) → other ≡ key → IsAt new other client → client ≡ two
  is_two other client same there = let changed = updates.changed in cc

  -- a client that keeps its socket is served, and so are the others
  pub clients_step : ServesClients new H'
  clients_step = record {
    carries = λ other client there. elim (cases_eq other key) [
      | inl same ↦
          rw (is_two other client same there)
          (let all = s.carries key one stands in
          record { pasts = all.pasts; legal = all.legal; carries = keeps.carries all.pasts no_logs all.carries })
      | inr differs ↦
          let was : IsAt old other client = sym (updates.others other differs) ∙ there in
          let all = s.carries other client was in
          record {
            pasts = all.pasts;
            legal = all.legal;
            carries = rw keeps.adds
                (engines.sockets_carry_logs.stays all.pasts client.engine H keeps.steps no_logs (none_of other client differs was) all.carries);
          }
    ];
    opened = λ other client there. elim (cases_eq other key) [
      | inl same ↦ rw (is_two other client same there, keeps.conn, keeps.adds) (opened_later one.engine.conn H keeps.steps (s.opened key one stands))
      | inr differs ↦
          rw keeps.adds
          (opened_later client.engine.conn H keeps.steps (s.opened other client (sym (updates.others other differs) ∙ there)))
    ];
    apart = λ i j x y x_at y_at same. elim (cases_eq i key) [
      | inl i_is ↦ elim (cases_eq j key) [
        | inl j_is ↦ i_is ∙ sym j_is
        | inr j_differs ↦
            i_is
            ∙ s.apart key j one y stands (sym (updates.others j j_differs) ∙ y_at) (sym keeps.conn ∙ (rw (is_two i x i_is x_at) at same))
      ]
      | inr i_differs ↦ elim (cases_eq j key) [
        | inl j_is ↦
            s.apart i key x one (sym (updates.others i i_differs) ∙ x_at) stands ((rw (is_two j y j_is y_at) at same) ∙ keeps.conn)
            ∙ sym j_is
        | inr j_differs ↦
            s.apart i j x y (sym (updates.others i i_differs) ∙ x_at) (sym (updates.others j j_differs) ∙ y_at) same
      ]
    ];
  }

-- where a client is removed the others are served
pub clients_removed : (old new : Slab ClientConnection) (key : ℕ) (H : History) → Updates old new key None → ServesClients old H → ServesClients new H
clients_removed old new key H updates s =
    let was : (other : ℕ) (client : ClientConnection) → IsAt new other client → IsAt old other client =
    λ other client there. elim (cases_eq other key) [
      | inl same ↦ let changed = updates.changed in absurd cc
      | inr differs ↦ sym (updates.others other differs) ∙ there
    ] in
    record {
      carries = λ other client there. s.carries other client (was other client there);
      opened = λ other client there. s.opened other client (was other client there);
      apart = λ i j x y x_at y_at same. s.apart i j x y (was i x x_at) (was j y y_at) same;
    }

-- HOSTS

get_or_default : (hosts : List HostConnection) (place : ℕ) (d e : HostConnection) → place < length hosts → get_or hosts place d ≡ get_or hosts place e
get_or_default [] place d e within = absurd (omega (arith, within))
get_or_default (host ∷ hosts) zero d e within = refl
get_or_default (host ∷ hosts) (suc place) d e within = get_or_default hosts place d e (omega (arith, within))

module _ {at_place : Place} {settings : List Host} (hosts : List HostConnection) (place : ℕ) (one two : HostConnection) (H H' : History) (within : place < length hosts)
    (is_one : one ≡ get_or hosts place one) (keeps : KeepsHost (ends_of one.engine) (ends_of two.engine) H H') (address : two.link ≡ one.link)
    (s : ServesHosts at_place settings hosts H) where
  -- a host that keeps its link is served, and so are the others
  pub hosts_step : ServesHosts at_place settings (set hosts place two) H'
  hosts_step = record {
    carries = λ i d i_within. elim (cases_eq i place) [
      | inl same ↦
          rw (same, get_or-set_same hosts place two d within)
          (keeps.carries (rw (← is_one) at (s.carries place one within)))
      | inr differs ↦
          let i_was : i < length hosts = rw (length-set hosts place two) at i_within in
          let host : HostConnection = get_or hosts i d in
          let other : number_of host ≢ number_of one =
          λ same. differs (s.apart i place d one i_was within (same ∙ ap number_of is_one)) in
          rw (get_or-set_other hosts place i two d differs, keeps.adds)
          (engines.hosts_carry_logs.stays host.engine.outbox host.engine.link H keeps.steps no_logs
          ((engines.hosts_leave_others (number_of one) keeps.steps keeps.alone).0 (number_of host) other) (s.carries i d i_was))
    ];
    own = λ i d i_within.
        let i_was : i < length hosts = rw (length-set hosts place two) at i_within in
        rw (number_stays i d i_was) (s.own i d i_was);
    addressed = λ i d i_within. elim (cases_eq i place) [
      | inl same ↦
          let (entry, there, is) = rw (← is_one) at (s.addressed place one within) in
          rw (same, get_or-set_same hosts place two d within) (entry, rw keeps.host there, address ∙ is)
      | inr differs ↦
          rw (get_or-set_other hosts place i two d differs) (s.addressed i d (rw (length-set hosts place two) at i_within))
    ];
    apart = λ i j x y i_within j_within same.
        s.apart i j x y (rw (length-set hosts place two) at i_within) (rw (length-set hosts place two) at j_within)
        (sym (number_stays i x (rw (length-set hosts place two) at i_within)) ∙ same ∙ number_stays j y (rw (length-set hosts place two) at j_within));
  }
    where
      default_is : (d : HostConnection) → get_or hosts place one ≡ get_or hosts place d
      default_is d = get_or_default hosts place one d within

      number_stays : (i : ℕ) (d : HostConnection) → i < length hosts → number_of (get_or (set hosts place two) i d) ≡ number_of (get_or hosts i d)
      number_stays i d i_within = elim (cases_eq i place) [
        | inl same ↦ rw (same, get_or-set_same hosts place two d within) (keeps.host ∙ ap number_of is_one ∙ ap number_of (default_is d))
        | inr differs ↦ rw (get_or-set_other hosts place i two d differs) refl
      ]

-- A WORKER

module _ {place : Place} {settings : List Host} (old new : Slab ClientConnection) (hosts : List HostConnection) (key : ℕ) (one two : ClientConnection) (H H' : History) where
  -- one client made steps
  pub serves_client : Updates old new key (Some two) → IsAt old key one → KeepsSocket one.engine two.engine H H'
      → IsServing place settings old hosts H → IsServing place settings new hosts H'
  serves_client updates stands keeps s = record {
    clients_are = clients_step old new key one two H H' updates stands keeps s.clients_are;
    hosts_are = rw keeps.adds (hosts_stay hosts H keeps.steps (engines.clients_leave_others one.engine.conn keeps.steps keeps.alone).1 s.hosts_are);
    keeps = rw keeps.adds (keeps_of_connection place one.engine.conn H keeps.steps keeps.alone s.keeps);
  }

-- one host made steps
pub serves_host : {at_place : Place} → {settings : List Host} → (clients : Slab ClientConnection) (hosts : List HostConnection) (place : ℕ) (one two : HostConnection) (H H' : History) → place < length hosts
    → one ≡ get_or hosts place one → KeepsHost (ends_of one.engine) (ends_of two.engine) H H' → two.link ≡ one.link
    → IsServing at_place settings clients hosts H → IsServing at_place settings clients (set hosts place two) H'
serves_host {at_place} {settings} clients hosts place one two H H' within is_one keeps address s = record {
  clients_are = rw keeps.adds
      (clients_stay clients H keeps.steps (λ key client there. (engines.hosts_leave_others (number_of one) keeps.steps keeps.alone).1 client.engine.conn) s.clients_are);
  hosts_are = hosts_step hosts place one two H H' within is_one keeps address s.hosts_are;
  keeps = rw keeps.adds
      (keeps_of_host at_place (number_of one) H keeps.steps keeps.alone (rw (ap number_of is_one) (s.hosts_are.own place one within)) s.keeps);
}

-- a client was removed
pub serves_removed : {place : Place} → {settings : List Host} → (old new : Slab ClientConnection) (hosts : List HostConnection) (key : ℕ) (H : History) → Updates old new key None
    → IsServing place settings old hosts H → IsServing place settings new hosts H
serves_removed old new hosts key H updates s = record {
  clients_are = clients_removed old new key H updates s.clients_are;
  hosts_are = s.hosts_are;
  keeps = s.keeps;
}

-- NEWCOMERS

first_none : (xs ys : History) → xs ++ ys ≡ [] → xs ≡ []
first_none [] ys none = refl
first_none (x ∷ xs) ys none = absurd cc

-- an engine was opened: the others are served, and it is a newcomer
module _ {place : Place} {settings : List Host} (clients : Slab ClientConnection) (hosts : List HostConnection) (engine : Engine) (H H' : History) (o : OpensSocket engine H H') (s : IsServing place settings clients hosts H) where
  others_differ : (key : ℕ) (client : ClientConnection) → IsAt clients key client → client.engine.conn ≢ engine.conn
  others_differ key client there same = s.clients_are.opened key client there (rw (← same) at o.fresh)

  pub serves_beside : IsServing place settings clients hosts H'
  serves_beside = record {
    clients_are = rw o.adds
        (clients_stay clients H o.later
        (λ key client there. (engines.clients_leave_others engine.conn o.later o.alone).0 client.engine.conn (others_differ key client there)) s.clients_are);
    hosts_are = rw o.adds (hosts_stay hosts H o.later (engines.clients_leave_others engine.conn o.later o.alone).1 s.hosts_are);
    keeps = rw o.adds (keeps_of_connection place engine.conn H o.later o.alone s.keeps);
  }

  pub is_newcomer : IsNewcomer engine clients H'
  is_newcomer = record {
    carries = o.carries;
    opened = rw o.adds (λ none. o.some
        (first_none (connection_steps engine.conn o.later) (connection_steps engine.conn H)
        (sym (filter-append (λ (s : Step). is_connection_step engine.conn s.event s.answer) o.later H) ∙ none)));
    apart = others_differ;
  }

-- a newcomer became a client
module _ {place : Place} {settings : List Host} (old new : Slab ClientConnection) (hosts : List HostConnection) (key : ℕ) (client : ClientConnection) (H : History)
    (updates : Updates old new key (Some client)) (vacant : get old key ≡ None) (n : IsNewcomer client.engine old H) (s : IsServing place settings old hosts H) where
  is_client : (other : ℕ) (one : ClientConnection) → other ≡ key → IsAt new other one → one ≡ client
  is_client other one same there = let changed = updates.changed in cc

  was : (other : ℕ) (one : ClientConnection) → other ≢ key → IsAt new other one → IsAt old other one
  was other one differs there = sym (updates.others other differs) ∙ there

  pub serves_inserted : IsServing place settings new hosts H
  serves_inserted = record {
    clients_are = record {
      carries = λ other one there. elim (cases_eq other key) [
        | inl same ↦ rw (is_client other one same there) n.carries
        | inr differs ↦ s.clients_are.carries other one (was other one differs there)
      ];
      opened = λ other one there. elim (cases_eq other key) [
        | inl same ↦ rw (is_client other one same there) n.opened
        | inr differs ↦ s.clients_are.opened other one (was other one differs there)
      ];
      apart = λ i j x y x_at y_at same. elim (cases_eq i key) [
        | inl i_is ↦ elim (cases_eq j key) [
          | inl j_is ↦ i_is ∙ sym j_is
          | inr j_differs ↦ absurd (n.apart j y (was j y j_differs y_at) (sym (rw (is_client i x i_is x_at) at same)))
        ]
        | inr i_differs ↦ elim (cases_eq j key) [
          | inl j_is ↦ absurd (n.apart i x (was i x i_differs x_at) (rw (is_client j y j_is y_at) at same))
          | inr j_differs ↦ s.clients_are.apart i j x y (was i x i_differs x_at) (was j y j_differs y_at) same
        ]
      ];
    };
    hosts_are = s.hosts_are;
    keeps = s.keeps;
  }

-- a client of a worker that serves is served, where the worker's steps are of a pass in a legal journal
pub carries_its_socket : {place : Place} → {settings : List Host} → (clients : Slab ClientConnection) (hosts : List HostConnection) (key : ℕ) (client : ClientConnection) (H : History) → IsAt clients key client
    → ∥ AreOfPass H ∥₁ → IsServing place settings clients hosts H → CarriesItsSocket client.engine
carries_its_socket clients hosts key client H there of_pass s =
    record { steps = H; of_pass = of_pass; carries = s.clients_are.carries key client there }

-- what turns at a gate tell of their own steps, in the words of sockets
pub are_of_pass : (seat : SeatedFacts Event Answer Origin)
    → ∥ IsOfLegalJournal IsLegalJournal (turns_of seat) ∥₁ → ∥ AreOfPass (steps_of seat) ∥₁
are_of_pass seat legal = ∥∥₁_map legal (λ o. record {
  made = seat.gate.setting;
  journal = o.journal;
  pass = seat.pass.number;
  is_legal = o.is_legal;
  own = ap history_of_seen o.own;
})

-- THE SLAB'S KEYS

module _ {place : Place} {settings : List Host} (clients : Slab ClientConnection) (hosts : List HostConnection) (key : ℕ) (one two : ClientConnection) (H H' : History) (stands : IsAt clients key one) (s : IsServing place settings clients hosts H) where
  updates_at : Updates clients (with_value clients key two) key (Some two)
  updates_at = Updates-with_value clients key two (rw stands refl)

  -- the client at a key made steps
  pub serves_stepped : KeepsSocket one.engine two.engine H H' → IsServing place settings (with_value clients key two) hosts H'
  serves_stepped keeps = serves_client clients (with_value clients key two) hosts key one two H H' updates_at stands keeps s

-- one client stands at a key
one_at : (clients : Slab ClientConnection) (key : ℕ) (one two : ClientConnection) → IsAt clients key one → IsAt clients key two → one ≡ two
one_at clients key one two first second = cc

-- a client that was inserted stands under the key that was the next one
pub has_come : (old new : Slab ClientConnection) (key : ℕ) (client : ClientConnection) → key ≡ old.vacant_key → Updates old new key (Some client)
    → (kept : ClientConnection) × IsAt new old.vacant_key kept
has_come old new key client is updates = (client, subst (λ (k : ℕ). get new k ≡ Some client) is updates.changed)

-- what a round says of the client at a key holds once that stands there
pub lets_go : (clients : Slab ClientConnection) (key : ℕ) (one two : ClientConnection) → IsAt clients key one → (r : Result Stepped StepError)
    → (r ≡ Ok Stepped.Closed → (is_lingering two.stage ≡ true) × HasPassedAll two.engine.outbox)
    → (r ≡ Ok Stepped.CarriedOver → MayGoOver two.engine) → IfOk r (λ s. LetsGo s (with_value clients key two) key)
lets_go clients key one two stands (Ok Stepped.Idle) closed carried = tt
lets_go clients key one two stands (Ok Stepped.Ready) closed carried = tt
lets_go clients key one two stands (Ok Stepped.Closed) closed carried = λ client there.
    let same : two ≡ client = one_at (with_value clients key two) key two client ((Updates-with_value clients key two (rw stands refl)).changed) there in
    subst (λ (c : ClientConnection). (is_lingering c.stage ≡ true) × HasPassedAll c.engine.outbox) same (closed refl)
lets_go clients key one two stands (Ok Stepped.CarriedOver) closed carried =
    (two, (Updates-with_value clients key two (rw stands refl)).changed, carried refl)
lets_go clients key one two stands (Err e) closed carried = tt

-- the writer of the client at a key has failed
pub has_failed : (clients : Slab ClientConnection) (key : ℕ) (one two : ClientConnection) → IsAt clients key one
    → two.engine.outbox.passed.has_failed ≡ true → HasFailed (with_value clients key two) key
has_failed clients key one two stands failed client there =
    let same : two ≡ client = one_at (with_value clients key two) key two client ((Updates-with_value clients key two (rw stands refl)).changed) there in
    subst (λ (c : ClientConnection). c.engine.outbox.passed.has_failed ≡ true) same failed

-- the engine of the client at a key is as it was
pub serves_same : {place : Place} → {settings : List Host} → (clients : Slab ClientConnection) (hosts : List HostConnection) (key : ℕ) (one two : ClientConnection) (H : History) → IsAt clients key one
    → two.engine ≡ one.engine → IsServing place settings clients hosts H → IsServing place settings (with_value clients key two) hosts H
serves_same clients hosts key one two H stands same s =
    serves_stepped clients hosts key one two H H stands s (rw same (engines.KeepsSocket-same one.engine H))

-- the writer of the client at a key has passed on what it took
pub serves_passed : {place : Place} → {settings : List Host} → (clients : Slab ClientConnection) (hosts : List HostConnection) (key : ℕ) (one two : ClientConnection) (H : History) → IsAt clients key one
    → PassesOn one.engine two.engine → IsServing place settings clients hosts H → IsServing place settings (with_value clients key two) hosts H
serves_passed clients hosts key one two H stands passes s =
    serves_stepped clients hosts key one two H H stands s (KeepsSocket-passes_on one.engine two.engine H passes)

-- the client at a key may drain
pub serves_drained : {place : Place} → {settings : List Host} → (clients : Slab ClientConnection) (hosts : List HostConnection) (key : ℕ) (one two : ClientConnection) (H : History) → IsAt clients key one
    → two.engine ≡ record one.engine { is_drained = true } → IsServing place settings clients hosts H → IsServing place settings (with_value clients key two) hosts H
serves_drained clients hosts key one two H stands drained s =
    serves_stepped clients hosts key one two H H stands s (rw drained (engines.KeepsSocket-drained one.engine H))

-- a slab has more room
pub serves_capacity : {place : Place} → {settings : List Host} → (old new : Slab ClientConnection) (hosts : List HostConnection) (H : History) (capacity : ℕ) → new ≡ record old { capacity = capacity }
    → IsServing place settings old hosts H → IsServing place settings new hosts H
serves_capacity old new hosts H capacity is s = rw is (record {
  clients_are = record { carries = s.clients_are.carries; opened = s.clients_are.opened; apart = s.clients_are.apart };
  hosts_are = s.hosts_are;
  keeps = s.keeps;
})

-- BEGINNINGS

-- a worker with these hosts, no clients and no steps serves
pub serves_none : {place : Place} → {settings : List Host} → (clients : Slab ClientConnection) (hosts : List HostConnection) (H : History) → clients.slots ≡ [] → H ≡ []
    → ServesHosts place settings hosts [] → IsServing place settings clients hosts H
serves_none clients hosts H no_slots no_steps s =
    let nobody : (key : ℕ) (client : ClientConnection) → IsAt clients key client → ⊥ = λ key client there. none_at key client (rw no_slots at there) in
    rw no_steps (record {
      clients_are = record {
        carries = λ key client there. absurd (nobody key client there);
        opened = λ key client there. absurd (nobody key client there);
        apart = λ i j x y x_at y_at same. absurd (nobody i x x_at);
      };
      hosts_are = s;
      keeps = λ h other. refl;
    })
  where
    none_at : (key : ℕ) (client : ClientConnection) → get_or [] key None ≡ Some client → ⊥
    none_at zero client there = absurd cc
    none_at (suc key) client there = absurd cc

-- hosts that rise to a number rise to the next one too, where that is another worker's
pub rises_past : {place : Place} → {settings : List Host} → (hosts : List HostConnection) (next : ℕ) → (IsOf place next → ⊥) → RiseTo place settings hosts next
    → RiseTo place settings hosts (next + 1)
rises_past {place} {settings} hosts next other r = record {
  serves = r.serves;
  all = r.all ∙ hosts_of-skip place next other;
  below = λ k d within. let under = r.below k d within in omega (arith, under);
}

-- no host rises to 0
pub rises_none : {place : Place} → {settings : List Host} → RiseTo place settings [] 0
rises_none = record {
  serves = record {
    carries = λ k d within. absurd (omega (arith, within));
    own = λ k d within. absurd (omega (arith, within));
    addressed = λ k d within. absurd (omega (arith, within));
    apart = λ i j x y i_within j_within same. absurd (omega (arith, i_within));
  };
  all = refl;
  below = λ k d within. absurd (omega (arith, within));
}

module _ {place : Place} {settings : List Host} (hosts : List HostConnection) (host : HostConnection) (next : ℕ) (r : RiseTo place settings hosts next) (number : number_of host ≡ next) (is_own : IsOf place next)
    (carries : CarriesLink [] host) (addressed : IsAddressed settings host) where
  before_last : (k : ℕ) → k < length (hosts ++ host ∷ []) → k ≢ length hosts → k < length hosts
  before_last k within differs = let all : k < length hosts + 1 = rw (length-append hosts (host ∷ [])) at within in omega (arith, all, differs)

  is_last : (k : ℕ) (d : HostConnection) → k ≡ length hosts → get_or (hosts ++ host ∷ []) k d ≡ host
  is_last k d same = rw same (get_or-append_seam hosts host [] d)

  is_before : (k : ℕ) (d : HostConnection) → k < length hosts → get_or (hosts ++ host ∷ []) k d ≡ get_or hosts k d
  is_before k d within = get_or_append_left hosts (host ∷ []) d k within

  -- the next host stands behind the others
  pub rises_by : RiseTo place settings (hosts ++ host ∷ []) (next + 1)
  rises_by = record {
    serves = record {
      carries = λ k d within. elim (cases_eq k (length hosts)) [
        | inl same ↦ rw (is_last k d same) carries
        | inr differs ↦ rw (is_before k d (before_last k within differs)) (r.serves.carries k d (before_last k within differs))
      ];
      own = λ k d within. elim (cases_eq k (length hosts)) [
        | inl same ↦ rw (is_last k d same, number) is_own
        | inr differs ↦ rw (is_before k d (before_last k within differs)) (r.serves.own k d (before_last k within differs))
      ];
      addressed = λ k d within. elim (cases_eq k (length hosts)) [
        | inl same ↦ rw (is_last k d same) addressed
        | inr differs ↦ rw (is_before k d (before_last k within differs)) (r.serves.addressed k d (before_last k within differs))
      ];
      apart = λ i j x y i_within j_within same. elim (cases_eq i (length hosts)) [
        | inl i_last ↦ elim (cases_eq j (length hosts)) [
          | inl j_last ↦ i_last ∙ sym j_last
          | inr j_before ↦
              let under = r.below j y (before_last j j_within j_before) in
              let is_next : number_of (get_or hosts j y) ≡ next =
              ap number_of (sym (is_before j y (before_last j j_within j_before))) ∙ sym same ∙ ap number_of (is_last i x i_last) ∙ number in
              absurd (omega (arith, under, is_next))
        ]
        | inr i_before ↦ elim (cases_eq j (length hosts)) [
          | inl j_last ↦
              let under = r.below i x (before_last i i_within i_before) in
              let is_next : number_of (get_or hosts i x) ≡ next =
              ap number_of (sym (is_before i x (before_last i i_within i_before))) ∙ same ∙ ap number_of (is_last j y j_last) ∙ number in
              absurd (omega (arith, under, is_next))
          | inr j_before ↦
              r.serves.apart i j x y (before_last i i_within i_before) (before_last j j_within j_before)
              (ap number_of (sym (is_before i x (before_last i i_within i_before))) ∙ same ∙ ap number_of (is_before j y (before_last j j_within j_before)))
        ]
      ];
    };
    all = map-append number_of hosts (host ∷ []) ∙ rw (r.all, number) (hosts_of-take place next is_own);
    below = λ k d within. elim (cases_eq k (length hosts)) [
      | inl same ↦ let is_next : number_of (get_or (hosts ++ host ∷ []) k d) ≡ next = ap number_of (is_last k d same) ∙ number in omega (arith, is_next)
      | inr differs ↦
          let under = r.below k d (before_last k within differs) in
          let is_same : number_of (get_or (hosts ++ host ∷ []) k d) ≡ number_of (get_or hosts k d) = ap number_of (is_before k d (before_last k within differs)) in
          omega (arith, under, is_same)
    ];
  }

-- the same of equal lists
pub rises_empty : {place : Place} → {settings : List Host} → (hosts : List HostConnection) → hosts ≡ [] → RiseTo place settings hosts 0
rises_empty hosts none = rw none rises_none

pub rises_to : {place : Place} → {settings : List Host} → (hosts new : List HostConnection) (host : HostConnection) (next : ℕ) → new ≡ hosts ++ host ∷ [] → RiseTo place settings hosts next
    → number_of host ≡ next → IsOf place next → CarriesLink [] host → IsAddressed settings host → RiseTo place settings new (next + 1)
rises_to hosts new host next is r number is_own carries addressed = rw is (rises_by hosts host next r number is_own carries addressed)

-- CHANGES

-- what contracts see of connections
abbrev pub state_of : Place → List Host → Slab ClientConnection → List HostConnection → History → WorkerConnectionsState
state_of place settings clients hosts H = record { place = place; settings = settings; clients = clients; hosts = hosts; steps = H }

-- a client has a key once
none_at : (clients : Slab ClientConnection) (key : ℕ) (one : ClientConnection) → get clients key ≡ None → IsAt clients key one → ⊥
none_at clients key one none there = absurd cc

module _ {place : Place} {settings : List Host} (clients : Slab ClientConnection) (hosts : List HostConnection) (key : ℕ) (one two : ClientConnection) (H H' : History) (stands : IsAt clients key one) where
  -- the client at a key made steps
  pub changes_client : KeepsSocket one.engine two.engine H H' → ChangesClient key (state_of place settings clients hosts H) (state_of place settings (with_value clients key two) hosts H')
  changes_client keeps =
      let updates : Updates clients (with_value clients key two) key (Some two) = Updates-with_value clients key two (rw stands refl) in
      record {
        place = refl;
        settings = refl;
        hosts = refl;
        others = updates.others;
        stays = λ client there. (two, updates.changed, rw (one_at clients key client one there stands) keeps);
        vacant = λ none. absurd (none_at clients key one none stands);
      }

-- the engine of the client at a key is as it was
pub changes_same : {place : Place} → {settings : List Host} → (clients : Slab ClientConnection) (hosts : List HostConnection) (key : ℕ) (one two : ClientConnection) (H : History) → IsAt clients key one
    → two.engine ≡ one.engine → ChangesClient key (state_of place settings clients hosts H) (state_of place settings (with_value clients key two) hosts H)
changes_same clients hosts key one two H stands same =
    changes_client clients hosts key one two H H stands (rw same (engines.KeepsSocket-same one.engine H))

-- the writer of the client at a key has passed on what it took
pub changes_passed : {place : Place} → {settings : List Host} → (clients : Slab ClientConnection) (hosts : List HostConnection) (key : ℕ) (one two : ClientConnection) (H : History) → IsAt clients key one
    → PassesOn one.engine two.engine → ChangesClient key (state_of place settings clients hosts H) (state_of place settings (with_value clients key two) hosts H)
changes_passed clients hosts key one two H stands passes =
    changes_client clients hosts key one two H H stands (KeepsSocket-passes_on one.engine two.engine H passes)

-- the client at a key takes in nothing more
pub changes_drained : {place : Place} → {settings : List Host} → (clients : Slab ClientConnection) (hosts : List HostConnection) (key : ℕ) (one two : ClientConnection) (H : History) → IsAt clients key one
    → two.engine ≡ record one.engine { is_drained = true } → ChangesClient key (state_of place settings clients hosts H) (state_of place settings (with_value clients key two) hosts H)
changes_drained clients hosts key one two H stands drained =
    changes_client clients hosts key one two H H stands (rw drained (engines.KeepsSocket-drained one.engine H))

-- a host made steps
pub changes_host : {place : Place} → {settings : List Host} → (clients : Slab ClientConnection) (hosts : List HostConnection) (index : ℕ) (one two : HostConnection) (H H' : History) → index < length hosts
    → one ≡ get_or hosts index one → KeepsHost (ends_of one.engine) (ends_of two.engine) H H'
    → ChangesHost index (state_of place settings clients hosts H) (state_of place settings clients (set hosts index two) H')
changes_host clients hosts index one two H H' within is_one keeps = record {
  place = refl;
  settings = refl;
  clients = refl;
  many = length-set hosts index two;
  others = λ i d differs. get_or-set_other hosts index i two d differs;
  keeps = λ d inside.
      let was : get_or hosts index d ≡ one = sym (is_one ∙ get_or_default hosts index one d within) in
      rw (get_or-set_same hosts index two d within, was) keeps;
  none = λ past. absurd (omega (arith, within, past));
}

-- a host is as it was
pub changes_same_host : {place : Place} → {settings : List Host} → (clients : Slab ClientConnection) (hosts : List HostConnection) (index : ℕ) (one : HostConnection) (H : History) → index < length hosts
    → one ≡ get_or hosts index one → ChangesHost index (state_of place settings clients hosts H) (state_of place settings clients (set hosts index one) H)
changes_same_host clients hosts index one H within is_one =
    changes_host clients hosts index one one H H within is_one (engines.KeepsLink-same no_logs (ends_of one.engine) H)

module _ (old new : WorkerConnectionsState) (place : new.place ≡ old.place) (settings : new.settings ≡ old.settings) (hosts : new.hosts ≡ old.hosts) (stay : KeepsClients old.clients new.clients) where
  -- a connection was opened
  pub adds_opened : (engine : Engine) (H : History) → OpensSocket engine old.steps H → new.steps ≡ H → AddsClient old new
  adds_opened engine H o steps = record {
    place = place;
    settings = settings;
    hosts = hosts;
    stay = stay;
    conn = engine.conn;
    later = o.later;
    adds = steps ∙ o.adds;
    alone = o.alone;
    fresh = λ _. o.fresh;
  }
