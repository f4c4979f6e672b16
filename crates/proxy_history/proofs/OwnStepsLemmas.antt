-- What own steps tell of a connection and of a host.
use Rattle.std.proofs.Common.{◌≡◌, ℕ, Bool, false, ◌==◌, ◌||◌, [], ◌++◌, refl, sym, ap, ◌∙◌, arith}
use Rattle.std.proofs.lemmas.Bool.{or_parts, and_left}
use Rattle.std.proofs.lemmas.List.{append-nil}
use Rattle.splitter.specs.Plan.{is_last}
use Rattle.proxy_history.specs.History.{History, Step, plan_for, times, has, is_arrival, is_handing, is_closing, is_fault, finishes, epoch, request_by, requests}
use Rattle.proxy_history.specs.Replies.{reply_by, replies_from}
use Rattle.proxy_history.specs.Output.{handed_text, transcript, sent_text, upstream}
use Rattle.proxy_history.specs.OwnSteps.{is_of_connection, is_opening_of, is_connection_step, connection_steps, is_of_host, host_steps}
use Rattle.proxy_history.specs.OwnStepsLaws.{SameOfConnection, SameOfHost}
use Rattle.proxy_history.specs.declared.event.Event.{Event}
use Rattle.proxy_history.specs.declared.event.Event.TheVariants.{Arrived, Finished, Taken, Answered, Failed, Handed, Closed}
use Rattle.proxy_history.specs.declared.answer.Answer.{Answer}
use Rattle.proxy_history.specs.declared.answer.Answer.TheVariants as answer
use Rattle.proxy_history.proofs.ReadingLemmas.{yield_of, handed_text_of, sent_text_of, transcript-yield_of, requests-yield_of, upstream-yield_of, came-yield_of, yield_of-append, times-append, has-append, yield_of-filter, times-filter, has-filter}

-- STEPS OF OTHER CONNECTIONS

no_text : (c : ℕ) (event : Event) (a : Answer) → is_of_connection c event ≡ false → handed_text c event a ≡ []
no_text c (Handed conn) (answer.Bytes t) f = rw f refl
no_text c _ _ f = refl

no_request : (c : ℕ) (event : Event) → is_of_connection c event ≡ false → request_by c event ≡ []
no_request c (Arrived conn request) f = rw f refl
no_request c _ f = refl

no_arrival : (c : ℕ) (event : Event) → is_of_connection c event ≡ false → is_arrival c event ≡ false
no_arrival c (Arrived conn request) f = f
no_arrival c _ f = refl

no_handing : (c : ℕ) (event : Event) → is_of_connection c event ≡ false → is_handing c event ≡ false
no_handing c (Handed conn) f = f
no_handing c _ f = refl

no_closing : (c : ℕ) (event : Event) → is_of_connection c event ≡ false → is_closing c event ≡ false
no_closing c (Closed conn) f = f
no_closing c _ f = refl

no_finish : (c : ℕ) (event : Event) → is_of_connection c event ≡ false → finishes c event ≡ false
no_finish c (Finished conn) f = f
no_finish c (Arrived conn request) f = and_left (conn == c) (is_last (plan_for request)) f
no_finish c _ f = refl

-- STEPS OF OTHER HOSTS

no_text_sent : (h e : ℕ) (event : Event) (a : Answer) → is_of_host h event ≡ false → sent_text h e event a ≡ []
no_text_sent h e (Taken host) (answer.Sent ep place t) f = rw f refl
no_text_sent h e _ _ f = refl

no_reply : (h e : ℕ) (event : Event) → is_of_host h event ≡ false → reply_by h e event ≡ []
no_reply h e (Answered host ep value t) f = rw f refl
no_reply h e _ f = refl

no_fault : (h : ℕ) (event : Event) → is_of_host h event ≡ false → is_fault h event ≡ false
no_fault h (Failed host ep kind t) f = f
no_fault h _ f = refl

-- OWN STEPS ALONE

module _ (c : ℕ) where
  abbrev is_own : Step → Bool
  is_own s = is_connection_step c s.event s.answer

  -- a step of others is no event of the connection
  of_others : (s : Step) → is_own s ≡ false → is_of_connection c s.event ≡ false
  of_others s f = (or_parts (is_opening_of c s.event s.answer) (is_of_connection c s.event) f).1

  pub connection_steps_tell_all : (H : History) → SameOfConnection c H (connection_steps c H)
  connection_steps_tell_all H = record {
    same_transcript = transcript-yield_of c (connection_steps c H)
        ∙ yield_of-filter (handed_text_of c) is_own (λ s f. no_text c s.event s.answer (of_others s f)) H
        ∙ sym (transcript-yield_of c H);
    same_requests = requests-yield_of c (connection_steps c H)
        ∙ yield_of-filter (λ (s : Step). request_by c s.event) is_own (λ s f. no_request c s.event (of_others s f)) H
        ∙ sym (requests-yield_of c H);
    same_accepted = times-filter (is_arrival c) is_own (λ s f. no_arrival c s.event (of_others s f)) H;
    same_handed = times-filter (is_handing c) is_own (λ s f. no_handing c s.event (of_others s f)) H;
    same_finishing = has-filter (finishes c) is_own (λ s f. no_finish c s.event (of_others s f)) H;
    same_closed = has-filter (is_closing c) is_own (λ s f. no_closing c s.event (of_others s f)) H;
  }

  -- where none of the steps is the connection's own they tell nothing of it
  module _ (later before : History) (none : connection_steps c later ≡ []) where
    told : SameOfConnection c later (connection_steps c later)
    told = connection_steps_tell_all later

    pub others_leave_connections : SameOfConnection c before (later ++ before)
    others_leave_connections =
        let no_times : (is : Event → Bool) → times is (connection_steps c later) ≡ times is later → times is (later ++ before) ≡ times is before =
        λ is same.
        omega (arith, times-append is later before, same, ap (times is) none) in
        let never : (is : Event → Bool) → has is (connection_steps c later) ≡ has is later → has is (later ++ before) ≡ has is before =
        λ is same.
        let not_later : has is later ≡ false = sym same ∙ ap (has is) none in
        has-append is later before ∙ ap (λ z. z || has is before) not_later in
        let text : yield_of (handed_text_of c) later ≡ [] =
        sym (transcript-yield_of c later) ∙ sym told.same_transcript ∙ ap (transcript c) none in
        let asked : yield_of (λ (s : Step). request_by c s.event) later ≡ [] = sym (requests-yield_of c later)
        ∙ sym told.same_requests ∙ ap (requests c) none in
        record {
          same_transcript = transcript-yield_of c (later ++ before)
              ∙ yield_of-append (handed_text_of c) later before
              ∙ ap (λ z. yield_of (handed_text_of c) before ++ z) text ∙ append-nil _
              ∙ sym (transcript-yield_of c before);
          same_requests = requests-yield_of c (later ++ before)
              ∙ yield_of-append (λ (s : Step). request_by c s.event) later before
              ∙ ap (λ z. yield_of (λ (s : Step). request_by c s.event) before ++ z) asked ∙ append-nil _
              ∙ sym (requests-yield_of c before);
          same_accepted = no_times (is_arrival c) told.same_accepted;
          same_handed = no_times (is_handing c) told.same_handed;
          same_finishing = never (finishes c) told.same_finishing;
          same_closed = never (is_closing c) told.same_closed;
        }

module _ (h : ℕ) where
  abbrev is_own_of_host : Step → Bool
  is_own_of_host s = is_of_host h s.event

  pub host_steps_tell_all : (H : History) → SameOfHost h H (host_steps h H)
  host_steps_tell_all H = record {
    same_epoch = times-filter (is_fault h) is_own_of_host (λ s f. no_fault h s.event f) H;
    same_upstream = λ e. upstream-yield_of h e (host_steps h H)
        ∙ yield_of-filter (sent_text_of h e) is_own_of_host (λ s f. no_text_sent h e s.event s.answer f) H
        ∙ sym (upstream-yield_of h e H);
    same_replies = λ e. came-yield_of h e (host_steps h H)
        ∙ yield_of-filter (λ (s : Step). reply_by h e s.event) is_own_of_host (λ s f. no_reply h e s.event f) H
        ∙ sym (came-yield_of h e H);
  }

  module _ (later before : History) (none : host_steps h later ≡ []) where
    told_of_host : SameOfHost h later (host_steps h later)
    told_of_host = host_steps_tell_all later

    pub others_leave_hosts : SameOfHost h before (later ++ before)
    others_leave_hosts =
        let text : (e : ℕ) → yield_of (sent_text_of h e) later ≡ [] =
        λ e. sym (upstream-yield_of h e later) ∙ sym (told_of_host.same_upstream e)
        ∙ ap (upstream h e) none in
        let replies : (e : ℕ) → yield_of (λ (s : Step). reply_by h e s.event) later ≡ [] = λ e. sym (came-yield_of h e later)
        ∙ sym (told_of_host.same_replies e) ∙ ap (replies_from h e) none in
        record {
          same_epoch = omega (arith, times-append (is_fault h) later before, told_of_host.same_epoch, ap (epoch h) none);
          same_upstream = λ e. upstream-yield_of h e (later ++ before)
              ∙ yield_of-append (sent_text_of h e) later before
              ∙ ap (λ z. yield_of (sent_text_of h e) before ++ z) (text e) ∙ append-nil _
              ∙ sym (upstream-yield_of h e before);
          same_replies = λ e. came-yield_of h e (later ++ before)
              ∙ yield_of-append (λ (s : Step). reply_by h e s.event) later before
              ∙ ap (λ z. yield_of (λ (s : Step). reply_by h e s.event) before ++ z) (replies e) ∙ append-nil _
              ∙ sym (came-yield_of h e before);
        }
