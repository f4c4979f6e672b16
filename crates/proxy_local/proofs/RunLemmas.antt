-- What a run of one client leaves.
use Rattle.std.proofs.Common.{◌≡◌, ◌≢◌, ◌==◌, ℕ, false, List, [], ◌∷◌, ◌++◌, Option, Some, None, ap, length, refl, sym, subst, ◌∙◌}
use Rattle.std.specs.Io.KnownBytes.{Appends, Keeps, append_known}
use Rattle.std.proofs.lemmas.Bool.{ne_eqb}
use Rattle.std.proofs.lemmas.List.{length-map}
use Rattle.std.proofs.lemmas.List.Elements.{filter-append}
use Rattle.splitter.specs.Request.{request_of}
use Rattle.splitter.specs.Requests.{up_to_last}
use Rattle.splitter.proofs.CallerLemmas as splits
use Rattle.proxy_history.specs.Setting.{Setting}
use Rattle.proxy_history.specs.History.{History, Step, requests}
use Rattle.proxy_history.specs.Legal.{IsLegal}
use Rattle.proxy_history.specs.Output.{transcript}
use Rattle.proxy_history.specs.Proxy.{Proxy}
use Rattle.proxy_history.specs.SeenSteps.{history_of_seen}
use Rattle.proxy_history.specs.OwnSteps.{connection_steps, is_connection_step}
use Rattle.proxy_history.specs.declared.answer.Answer.{Answer}
use Rattle.proxy_history.specs.declared.event.Event.{Event}
use Rattle.proxy_history.proofs.CallerLemmas as history
use Rattle.proxy_engines.specs.Client.{Client, Carries, asked_requests}
use Rattle.proxy_core.specs.Recorded.{Origin, IsLegalJournal, journal_of, made_with, setting_by}
use Rattle.ticket_gate.specs.Journal.{steps_of}
use Rattle.ticket_gate.specs.Turns.{AloneFacts}
use Rattle.proxy_engines.specs.Turns.{own_steps}
use Rattle.journal_core.specs.Journal.{step_by}
use Rattle.proxy_engines.specs.declared.client.Stage.{Stage}
use Rattle.proxy_engines.proofs.CallerLemmas as engines
use Rattle.proxy_local.specs.Stubs.{IsOfStubs}
use Rattle.proxy_local.specs.Moves.{GoesBeside}
use Rattle.proxy_local.specs.Local.{RunsLocal, RunsWhole}
use Rattle.proxy_local.proofs.BytesLemmas.{Appends-gathered}
use Rattle.proxy_local.proofs.EndLemmas.{asked-ended, at_end, unhalted_of}

-- the first connection has the number 0
opened_first : (S : Setting) (pass c : ℕ) (later H : History) → H ≡ later ++ step_by pass Event.Opened (Answer.Opened c) ∷ [] → IsLegal S H → c ≡ 0
opened_first S pass c later H adds legal =
    let first = step_by pass Event.Opened (Answer.Opened c) in
    let here : IsLegal S (first ∷ []) = history.IsLegal-append S later (first ∷ []) (subst (IsLegal S) adds legal) in
    let same : Answer.Opened c ≡ Answer.Opened 0 = here.1.is_answered in
    cc

-- A client that was opened first, and ended, leaves what is promised.
module _ (S : Setting) (old new : Client) (pass : ℕ) (before H : History) (opened : before ≡ step_by pass Event.Opened (Answer.Opened old.conn) ∷ [])
    (begins : Carries old before [] []) (reads : old.is_drained ≡ false) (unnamed : old.behind ≡ record { all = false; names = [] }) (goes : GoesBeside old new before H) (ended : new.stage ≡ Stage.Closed false) (legal : IsLegal S H) (of_stubs : IsOfStubs S) where
  adds : H ≡ goes.later ++ step_by pass Event.Opened (Answer.Opened old.conn) ∷ []
  adds = rw opened at goes.adds

  is_first : old.conn ≡ 0
  is_first = opened_first S pass old.conn goes.later H adds legal

  new_is_first : new.conn ≡ 0
  new_is_first = goes.conn ∙ is_first

  carries : Carries new H goes.gave goes.got
  carries = goes.carries [] [] begins

  none_else : (c : ℕ) → c ≢ 0 → connection_steps c H ≡ []
  none_else c other =
      let first : History = step_by pass Event.Opened (Answer.Opened old.conn) ∷ [] in
      let none : connection_steps c goes.later ≡ [] = goes.alone c (λ same. other (same ∙ is_first)) in
      let apart : (old.conn == c) ≡ false = ne_eqb old.conn c (λ same. other (sym same ∙ is_first)) in
      ap (λ z. connection_steps c z) adds ∙ filter-append (λ (s : Step). is_connection_step c s.event s.answer) goes.later first ∙ rw (none, apart) refl

  whole : (b : List ℕ) → old.inbox.left ≡ Some b → RunsWhole b old.outbox.held new.outbox.held
  whole b left =
      let rs = splits.each_stream_asks b in
      let came = splits.each_stream_asks goes.got in
      let done = engines.ended_is_whole new H goes.gave goes.got carries ended (unhalted_of new.is_halted new.is_drained (engines.halted_drained new H goes.gave goes.got carries (goes.behind ∙ unnamed)) (goes.drained ∙ reads)) came.0 came.1 in
      let all = asked-ended new H goes.gave goes.got b carries ended (goes.drained ∙ reads) (goes.behind ∙ unnamed) (rw left at goes.reads) rs.0 rs.1 in
      let accepted : asked_requests 0 H ≡ up_to_last rs.0 = rw new_is_first at all in
      let many : length (asked_requests 0 H) ≡ length (requests 0 H) = length-map (requests 0 H) request_of in
      record {
        setting = S;
        history = H;
        requests = rs.0;
        of_stubs = of_stubs;
        is_legal = legal;
        are = rs.1;
        accepted_are = accepted;
        all_handed = (rw new_is_first at done.all_handed) ∙ sym (history.length-requests 0 H) ∙ sym many ∙ ap length accepted;
        closed = rw new_is_first at (at_end new H goes.gave goes.got b carries ended (goes.drained ∙ reads) (goes.behind ∙ unnamed)).1.closed;
        alone = none_else;
        written = subst (λ (z : List ℕ). Appends old.outbox.held new.outbox.held z) (rw new_is_first at done.taken_is) goes.writes;
      }

  pub RunsLocal-ended : RunsLocal old.inbox.left old.outbox.held new.outbox.held
  RunsLocal-ended = by old.inbox.left refl
    where
      by : (o : Option (List ℕ)) → old.inbox.left ≡ o → RunsLocal o old.outbox.held new.outbox.held
      by None left = tt
      by (Some b) left = whole b left

-- Turns on a core of one's own: where the client was opened first on an empty journal and ended, what is promised is left.
pub RunsLocal-alone : (core : Proxy) (mid last : AloneFacts Proxy) (pass : ℕ) (old new : Client) → core.steps ≡ [] → IsOfStubs core.setting
    → own_steps mid.pass (journal_of mid.state) ≡ step_by pass Event.Opened (Answer.Opened old.conn) ∷ own_steps pass (journal_of core)
    → mid.pass ≡ pass → made_with mid.state ≡ made_with core → Carries old (own_steps mid.pass (journal_of mid.state)) [] [] → old.is_drained ≡ false → old.behind ≡ record { all = false; names = [] }
    → GoesBeside old new (own_steps mid.pass (journal_of mid.state)) (own_steps last.pass (journal_of last.state)) → new.stage ≡ Stage.Closed false
    → last.pass ≡ mid.pass → made_with last.state ≡ made_with mid.state
    → IsLegalJournal (made_with last.state) (journal_of last.state) → steps_of last.pass (journal_of last.state) ≡ journal_of last.state
    → RunsLocal old.inbox.left old.outbox.held new.outbox.held
RunsLocal-alone core mid last pass old new empty of_stubs opened pass_is made begins reads unnamed goes ended pass_stays made_stays legal all =
    let own : own_steps last.pass (journal_of last.state) ≡ history_of_seen (journal_of last.state) = ap history_of_seen all in
    let here : IsLegal core.setting (history_of_seen (journal_of last.state)) = subst (λ (m : Origin). IsLegal (setting_by m) (history_of_seen (journal_of last.state))) (made_stays ∙ made) legal in
    RunsLocal-ended core.setting old new pass (own_steps mid.pass (journal_of mid.state)) (own_steps last.pass (journal_of last.state))
    (rw empty at opened) begins reads unnamed goes ended
    (rw own here) of_stubs

-- with nothing gathered before, and all given back after
pub RunsLocal-written : (came a b c : Option (List ℕ)) → RunsLocal came (append_known a []) b → Keeps b c → RunsLocal came a c
RunsLocal-written None a b c r k = tt
RunsLocal-written (Some bytes) a b c r k = record {
  setting = r.setting;
  history = r.history;
  requests = r.requests;
  of_stubs = r.of_stubs;
  is_legal = r.is_legal;
  are = r.are;
  accepted_are = r.accepted_are;
  all_handed = r.all_handed;
  closed = r.closed;
  alone = r.alone;
  written = Appends-gathered a b c (transcript 0 r.history) r.written k;
}
