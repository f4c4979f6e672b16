-- What a client's engine carries over each of its moves.
use Rattle.std.proofs.Common.{◌≡◌, ◌≢◌, ◌∙◌, ◌≤◌, ◌+◌, ◌-◌, ◌^◌, ◌==◌, min, ℕ, Bool, true, false, List, [], ◌∷◌, ◌++◌, Option, Some, None, map, ap, append_assoc, append-nil, length, refl, sym, arith, inl, inr, subst, eq-eqb}
use Rattle.std.specs.Prelude.{IfSome, IfNone, IfOk, Result, Ok, Err, ◌||◌}
use Rattle.std.specs.Io.KnownBytes.{Consumes, Appends}
use Rattle.std.proofs.lemmas.List.{map-append}
use Rattle.std.proofs.lemmas.Bool.{cases_Bool}
use Rattle.std.proofs.lemmas.List.Elements.{filter-append}
use Rattle.limits.specs.declared.messages.TheConstants.{MAX_CLIENT_MEMBERS}
use Rattle.splitter.specs.Request.{Request, request_of}
use Rattle.splitter.specs.Requests.{finishes}
use Rattle.splitter.specs.Plan.{is_last}
use Rattle.splitter.proofs.CallerLemmas.{none_finishes-one}
use Rattle.close_behind.specs.CloseBehind.{Behind, NoneCloses, closes_behind}
use Rattle.close_behind.proofs.CallerLemmas.{closing_goes_on, none_closes-one}
use Rattle.splitter.specs.declared.request.Request.{Request as Request'}
use Rattle.proxy_history.specs.Setting.{max_steps}
use Rattle.proxy_history.specs.History.{History, Step, accepted_count, handed_count, requests, is_arrival, is_closed, is_finishing, is_handing}
use Rattle.proxy_history.specs.Output.{transcript}
use Rattle.proxy_history.specs.OwnSteps.{connection_steps, is_connection_step}
use Rattle.proxy_history.specs.OwnStepsLaws.{SameOfConnection}
use Rattle.proxy_history.specs.declared.event.Event.{Event}
use Rattle.proxy_history.specs.declared.answer.Answer.{Answer}
use Rattle.proxy_history.proofs.CallerLemmas as history
use Rattle.proxy_engines.specs.Ends.{OutboxState, Sends, InboxState, Holds, HoldsBehind, HasGivenAll, KeepsReader, Reads, Writes}
use Rattle.journal_core.specs.Journal.{step_by}
use Rattle.proxy_engines.specs.Client.{Client, Carries, ClosesAt, Goes, IsAtStage, IsDone, IsHalted, IsLive, IsOver, IsToldAt, IsUntaken, NoneFinishes, asked_requests, waiting_requests, Intake, intake_of}
use Rattle.proxy_engines.specs.Moves.{has_moved, AsTold, IsEndOf, last_text, text_handed, told_by_step}
use Rattle.proxy_engines.proofs.MoveLemmas.{end_then, has_moved-append, whole_end}
use Rattle.proxy_engines.proofs.InboxLemmas.{behind_all, behind_kept, behind_more, behind_read, kept_then}
use Rattle.proxy_engines.specs.declared.client.Progress.{Progress}
use Rattle.proxy_engines.specs.declared.client.Stage.{Stage}
use Rattle.engine_work.specs.declared.error.EngineError.{EngineError}

-- BYTES

pub Consumes-none : (a : Option (List ℕ)) → Consumes a a []
Consumes-none None = tt
Consumes-none (Some xs) = refl

pub Appends-none : (a : Option (List ℕ)) → Appends a a []
Appends-none None = tt
Appends-none (Some xs) = sym (append-nil xs)

pub Consumes-append : (a b c : Option (List ℕ)) (g h : List ℕ) → Consumes a b g → Consumes b c h → Consumes a c (g ++ h)
Consumes-append None b c g h x y = tt
Consumes-append (Some xs) None c g h x y = absurd x
Consumes-append (Some xs) (Some ys) None g h x y = absurd y
Consumes-append (Some xs) (Some ys) (Some zs) g h x y = grind (arith, append_assoc)

pub Appends-append : (a b c : Option (List ℕ)) (g h : List ℕ) → Appends a b g → Appends b c h → Appends a c (g ++ h)
Appends-append None b c g h x y = tt
Appends-append (Some xs) None c g h x y = absurd x
Appends-append (Some xs) (Some ys) None g h x y = absurd y
Appends-append (Some xs) (Some ys) (Some zs) g h x y = grind (arith, append_assoc)

-- no byte was read, or written
pub reads-none : (i j : InboxState) → KeepsReader i j → Reads i j []
reads-none i j (left, told, _) = record { left = rw left (Consumes-none i.left); told = told ∙ sym (append-nil i.told) }

pub writes-none : (o p : OutboxState) → (p.held ≡ o.held) × (p.taken ≡ o.taken) → Writes o p []
writes-none o p (held, taken) = record { held = rw held (Appends-none o.held); taken = taken ∙ sym (append-nil o.taken) }

pub log-append : (a b c g h : List ℕ) → b ≡ a ++ g → c ≡ b ++ h → c ≡ a ++ (g ++ h)
log-append a b c g h p q = q ∙ ap (λ z. z ++ h) p ∙ append_assoc a g h

pub reads-append : (a b c : InboxState) (g h : List ℕ) → Reads a b g → Reads b c h → Reads a c (g ++ h)
reads-append a b c g h p q = record { left = Consumes-append a.left b.left c.left g h p.left q.left; told = log-append a.told b.told c.told g h p.told q.told }

pub writes-append : (a b c : OutboxState) (g h : List ℕ) → Writes a b g → Writes b c h → Writes a c (g ++ h)
writes-append a b c g h p q = record { held = Appends-append a.held b.held c.held g h p.held q.held; taken = log-append a.taken b.taken c.taken g h p.taken q.taken }

true_not_false : true ≢ false
true_not_false same = absurd cc

-- MOVES

-- what a move may do that takes nothing in, or is none of an engine that drains
abbrev TakesFit : Client → Client → Type 0
TakesFit old new = old.is_drained ≡ true → old.next ≢ Some Request'.Broken → IsUntaken old new

untaken : (old new : Client) → new.accepted ≡ old.accepted → new.next ≡ old.next → TakesFit old new
untaken old new accepted next = λ _ _. record { accepted = accepted; next = next }

-- no bytes, and one step of the connection
turn_goes : (old new : Client) (H : History) (s : Step) → is_connection_step old.conn s.event s.answer ≡ true → IsEndOf new.outbox.pending (last_text text_handed old.outbox.pending (s ∷ [])) → TakesFit old new → new.conn ≡ old.conn → new.is_drained ≡ old.is_drained → new.behind ≡ old.behind → KeepsReader old.inbox new.inbox → (new.outbox.held ≡ old.outbox.held) × (new.outbox.taken ≡ old.outbox.taken)
    → ((taken b : List ℕ) → Carries old H taken b → Carries new (s ∷ H) taken b) → Goes old new H (s ∷ H) true
turn_goes old new H s mine one takes conn drained behind kept wrote f = record {
  got = [];
  gave = [];
  steps = s ∷ [];
  reads = reads-none old.inbox new.inbox kept;
  writes = writes-none old.outbox new.outbox wrote;
  conn = conn;
  drained = drained;
  behind = behind;
  unread = λ _. record { none = refl; kept = kept };
  untaken = takes;
  adds = refl;
  moved_is = refl;
  alone = rw mine refl;
  one_text = one;
  carries = λ taken b k. rw (append-nil taken, append-nil b) (f taken b k);
}

-- no bytes, and no step
still_goes : (old new : Client) (H : History) → TakesFit old new → new.conn ≡ old.conn → new.is_drained ≡ old.is_drained → new.behind ≡ old.behind → KeepsReader old.inbox new.inbox → new.outbox ≡ old.outbox
    → ((taken b : List ℕ) → Carries old H taken b → Carries new H taken b) → Goes old new H H false
still_goes old new H takes conn drained behind kept outbox f = record {
  got = [];
  gave = [];
  steps = [];
  reads = reads-none old.inbox new.inbox kept;
  writes = writes-none old.outbox new.outbox (ap (λ (o : OutboxState). o.held) outbox, ap (λ (o : OutboxState). o.taken) outbox);
  conn = conn;
  drained = drained;
  behind = behind;
  unread = λ _. record { none = refl; kept = kept };
  untaken = takes;
  adds = refl;
  moved_is = refl;
  alone = refl;
  one_text = rw outbox (whole_end old.outbox.pending);
  carries = λ taken b k. rw (append-nil taken, append-nil b) (f taken b k);
}

-- nothing at all
pub same_goes : (e : Client) (H H' : History) → H' ≡ H → Goes e e H H' false
same_goes e H H' same = rw same (still_goes e e H (untaken e e refl refl) refl refl refl (refl, refl, refl) refl (λ taken b k. k))

-- a turn that wasn't answered
pub unanswered_goes : (e : Client) (H H' : History) (result : Result Progress EngineError) → H' ≡ H → IfOk result (λ p. p ≡ Progress.Idle) → AsTold (Goes e e H H') (told_by_step result)
unanswered_goes e H H' (Ok p) same idle = rw idle (same_goes e H H' same)
unanswered_goes e H H' (Err error) same unmoved = (false, same_goes e H H' same)

-- two moves after one another
pub goes_then : (a b c : Client) (x y z : History) (m n : Bool) → Goes a b x y m → Goes b c y z n → Goes a c x z (m || n)
goes_then a b c x y z m n p q = record {
  got = p.got ++ q.got;
  gave = p.gave ++ q.gave;
  steps = q.steps ++ p.steps;
  reads = reads-append a.inbox b.inbox c.inbox p.got q.got p.reads q.reads;
  writes = writes-append a.outbox b.outbox c.outbox p.gave q.gave p.writes q.writes;
  conn = q.conn ∙ p.conn;
  drained = q.drained ∙ p.drained;
  behind = q.behind ∙ p.behind;
  unread = λ d. let first = p.unread d in let second = q.unread (p.drained ∙ d) in record { none = rw (first.none, second.none) refl; kept = kept_then a.inbox b.inbox c.inbox first.kept second.kept };
  untaken = λ d fit.
      let first = p.untaken d fit in
      let second = q.untaken (p.drained ∙ d) (rw first.next fit) in
      record { accepted = second.accepted ∙ first.accepted; next = second.next ∙ first.next };
  adds = rw (q.adds, p.adds) (sym (append_assoc q.steps p.steps x));
  moved_is = ap (λ w. w || n) p.moved_is
      ∙ ap (λ w. has_moved p.got p.gave p.steps || w) q.moved_is
      ∙ sym (has_moved-append p.got q.got p.gave q.gave p.steps q.steps);
  alone = filter-append (λ (s : Step). is_connection_step a.conn s.event s.answer) q.steps p.steps ∙ rw (p.alone) (ap (λ w. w ++ p.steps) (rw p.conn at q.alone));
  one_text = end_then text_handed a.outbox.pending b.outbox.pending c.outbox.pending p.steps q.steps p.one_text q.one_text;
  carries = λ taken r k. rw (← append_assoc taken p.gave q.gave, ← append_assoc r p.got q.got) (q.carries (taken ++ p.gave) (r ++ p.got) (p.carries taken r k));
}

-- and one after which it isn't told whether anything moved
pub goes_some : (a b c : Client) (x y z : History) (m n : Bool) → Goes a b x y m → Goes b c y z n → (moved : Bool) × Goes a c x z moved
goes_some a b c x y z m n p q = ((m || n), goes_then a b c x y z m n p q)

-- nothing moved, and then what is told
pub told_then : (a b c : Client) (x y z : History) (told : Option Bool) → Goes a b x y false → AsTold (Goes b c y z) told → AsTold (Goes a c x z) told
told_then a b c x y z None p q = goes_some a b c x y z false q.0 p q.1
told_then a b c x y z (Some n) p q = goes_then a b c x y z false n p q

-- whatever was told of the second
pub goes_told : (a b c : Client) (x y z : History) (told : Option Bool) → AsTold (Goes a b x y) None → AsTold (Goes b c y z) told → AsTold (Goes a c x z) None
goes_told a b c x y z None p q = goes_some a b c x y z p.0 q.0 p.1 q.1
goes_told a b c x y z (Some n) p q = goes_some a b c x y z p.0 n p.1 q

-- STAGES

stage_at : (s : Stage) (e : Client) (H : History) (b : List ℕ) (given : List Request) → e.stage ≡ s
    → IsAtStage e.stage (IsDone e H) (intake_of e H b given) → IsAtStage s (IsDone e H) (intake_of e H b given)
stage_at s e H b given is at = subst (λ (z : Stage). IsAtStage z (IsDone e H) (intake_of e H b given)) is at

-- a live stage doesn't look at whether all is done
live_stage : (s : Stage) (D E : Type 0) (x : Intake) → IsLive s
    → IsAtStage s D x → IsAtStage s E x
live_stage Stage.Open D E x live at = at
live_stage Stage.AtEnd D E x live at = at
live_stage Stage.Finishing D E x live at = at
live_stage Stage.Failed D E x live at = absurd live
live_stage (Stage.Closed cut) D E x live at = absurd live

-- while requests are taken nothing was halted
open_unhalted : (e : Client) (H : History) {A : Type 0} → e.stage ≡ Stage.Open → (e.is_halted ≡ true → IsHalted e H) → e.is_halted ≡ true → A
open_unhalted e H open_is f h = absurd ((f h).stage open_is)

-- HANDED

module _ (e : Client) (pass : ℕ) (H : History) (t : List ℕ) where
  abbrev after_hand : Client
  after_hand = record e { outbox = record e.outbox { pending = t }; handed = min (e.handed + 1) (2 ^ 64 - 1) }

  handed_carries : length (step_by pass (Event.Handed e.conn) (Answer.Bytes t) ∷ H) ≤ max_steps → e.outbox.pending ≡ [] → IsLive e.stage → (taken b : List ℕ) → Carries e H taken b
      → Carries after_hand (step_by pass (Event.Handed e.conn) (Answer.Bytes t) ∷ H) taken b
  handed_carries few empty live taken b k =
      let mine : (e.conn == e.conn) ≡ true = eq-eqb e.conn e.conn refl in
      let same : requests e.conn H ++ [] ≡ requests e.conn H = append-nil (requests e.conn H) in
      record {
        given = k.given;
        out_is = rw mine (ap (λ z. z ++ t) (sym (append-nil taken) ∙ rw empty at k.out_is));
        holds = k.holds;
        most_is = k.most_is;
        given_are = rw same k.given_are;
        accepted_is = k.accepted_is;
        handed_is = rw mine (omega (arith, k.handed_is, few, history.times-length (is_handing e.conn) H));
        stage_is = rw same (live_stage e.stage (IsDone e H) _ (intake_of e H b k.given) live k.stage_is);
        halted_is = λ h. let x = k.halted_is h in record { drained = x.drained; stage = x.stage; unbroken = x.unbroken; goes_on = rw same x.goes_on };
        closes_is = rw same k.closes_is;
        closing_is = k.closing_is;
        told_is = k.told_is;
      }

  pub handed_goes : length (step_by pass (Event.Handed e.conn) (Answer.Bytes t) ∷ H) ≤ max_steps → e.outbox.pending ≡ [] → IsLive e.stage → Goes e after_hand H (step_by pass (Event.Handed e.conn) (Answer.Bytes t) ∷ H) true
  handed_goes few empty live = turn_goes e after_hand H (step_by pass (Event.Handed e.conn) (Answer.Bytes t)) (rw (eq-eqb e.conn e.conn refl) refl) (whole_end t) (untaken e after_hand refl refl) refl refl refl (refl, refl, refl) (refl, refl) (handed_carries few empty live)

-- STEPS THAT HAND OUT NOTHING AND ACCEPT NOTHING

-- a step of the connection that changes no more than its end
pub record IsQuiet (c : ℕ) (s : Step) (H : History) : Type 0 where
  pub mine : is_connection_step c s.event s.answer ≡ true
  pub same_transcript : transcript c (s ∷ H) ≡ transcript c H
  pub same_requests : requests c (s ∷ H) ≡ requests c H
  pub same_accepted : accepted_count c (s ∷ H) ≡ accepted_count c H
  pub same_handed : handed_count c (s ∷ H) ≡ handed_count c H
  pub no_text : text_handed s.event s.answer ≡ None

quiet_goes : (e : Client) (stage : Stage) (s : Step) (H : History) → stage ≢ Stage.Open → IsQuiet e.conn s H
    → ((b : List ℕ) (given : List Request) → IsAtStage e.stage (IsDone e H) (intake_of e H b given)
    → IsAtStage stage (IsDone (record e { stage = stage }) (s ∷ H)) (intake_of e H b given))
    → (IsToldAt e.stage (is_finishing e.conn H) (is_closed e.conn H) → IsToldAt stage (is_finishing e.conn (s ∷ H)) (is_closed e.conn (s ∷ H)))
    → Goes e (record e { stage = stage }) H (s ∷ H) true
quiet_goes e stage s H past q f told = turn_goes e (record e { stage = stage }) H s q.mine (rw q.no_text (whole_end e.outbox.pending)) (untaken e (record e { stage = stage }) refl refl) refl refl refl (refl, refl, refl) (refl, refl) (λ taken b k. record {
  given = k.given;
  out_is = k.out_is ∙ sym q.same_transcript;
  holds = k.holds;
  most_is = k.most_is;
  given_are = rw q.same_requests k.given_are;
  accepted_is = k.accepted_is ∙ sym q.same_accepted;
  handed_is = k.handed_is ∙ sym q.same_handed;
  stage_is = rw q.same_requests (f b k.given k.stage_is);
  halted_is = λ h. let x = k.halted_is h in record { drained = x.drained; stage = past; unbroken = x.unbroken; goes_on = rw q.same_requests x.goes_on };
  closes_is = rw q.same_requests k.closes_is;
  closing_is = k.closing_is;
  told_is = told k.told_is;
})

quiet_finished : (c pass : ℕ) (a : Answer) (H : History) → IsQuiet c (step_by pass (Event.Finished c) a) H
quiet_finished c pass a H = record {
  mine = rw (eq-eqb c c refl) refl;
  same_transcript = append-nil (transcript c H);
  same_requests = append-nil (requests c H);
  same_accepted = refl;
  same_handed = refl;
  no_text = refl;
}

quiet_closed : (c pass : ℕ) (a : Answer) (H : History) → IsQuiet c (step_by pass (Event.Closed c) a) H
quiet_closed c pass a H = record {
  mine = rw (eq-eqb c c refl) refl;
  same_transcript = append-nil (transcript c H);
  same_requests = append-nil (requests c H);
  same_accepted = refl;
  same_handed = refl;
  no_text = refl;
}

pub finished_goes : (e : Client) (pass : ℕ) (a : Answer) (H : History) → e.stage ≡ Stage.AtEnd
    → Goes e (record e { stage = Stage.Finishing }) H (step_by pass (Event.Finished e.conn) a ∷ H) true
finished_goes e pass a H is =
    quiet_goes e Stage.Finishing (step_by pass (Event.Finished e.conn) a) H (λ o. absurd cc) (quiet_finished e.conn pass a H)
    (λ b given at. inl (stage_at Stage.AtEnd e H b given is at))
    (λ told. (rw (eq-eqb e.conn e.conn refl) refl, rw is at told))

pub cut_goes : (e : Client) (pass : ℕ) (a : Answer) (H : History) → Goes e (record e { stage = Stage.Closed true }) H (step_by pass (Event.Closed e.conn) a ∷ H) true
cut_goes e pass a H = quiet_goes e (Stage.Closed true) (step_by pass (Event.Closed e.conn) a) H (λ o. absurd cc) (quiet_closed e.conn pass a H) (λ b given at. tt) (λ told. rw (eq-eqb e.conn e.conn refl) refl)

pub failed_goes : (e : Client) (H H' : History) → H' ≡ H → Goes e (record e { stage = Stage.Failed }) H H' false
failed_goes e H H' same = rw same (still_goes e (record e { stage = Stage.Failed }) H (untaken e (record e { stage = Stage.Failed }) refl refl) refl refl refl (refl, refl, refl) refl (λ taken b k. record {
  given = k.given;
  out_is = k.out_is;
  holds = k.holds;
  most_is = k.most_is;
  given_are = k.given_are;
  accepted_is = k.accepted_is;
  handed_is = k.handed_is;
  stage_is = tt;
  halted_is = λ h. let x = k.halted_is h in record { drained = x.drained; stage = λ o. absurd cc; unbroken = x.unbroken; goes_on = x.goes_on };
  closes_is = k.closes_is;
  closing_is = k.closing_is;
  told_is = tt;
}))

pub closed_goes : (e : Client) (pass : ℕ) (a : Answer) (H : History) → e.stage ≡ Stage.Finishing → e.outbox.pending ≡ [] → e.accepted ≡ e.handed
    → Goes e (record e { stage = Stage.Closed false }) H (step_by pass (Event.Closed e.conn) a ∷ H) true
closed_goes e pass a H is empty handed =
    quiet_goes e (Stage.Closed false) (step_by pass (Event.Closed e.conn) a) H (λ o. absurd cc) (quiet_closed e.conn pass a H) (λ b given at. (
      stage_at Stage.Finishing e H b given is at,
      record { all_written = empty; all_handed = handed; closed = rw (eq-eqb e.conn e.conn refl) refl },
    )) (λ told. rw (eq-eqb e.conn e.conn refl) refl)

-- A WRITE

pub wrote_goes : (e : Client) (o : OutboxState) (gave : List ℕ) (H : History) (moved : Bool) → IsLive e.stage → Sends e.outbox o gave → moved ≡ has_moved [] gave [] → Goes e (record e { outbox = o }) H H moved
wrote_goes e o gave H moved live sends told = record {
  got = [];
  gave = gave;
  steps = [];
  reads = reads-none e.inbox e.inbox (refl, refl, refl);
  writes = sends.writes;
  conn = refl;
  drained = refl;
  behind = refl;
  unread = λ _. record { none = refl; kept = (refl, refl, refl) };
  untaken = λ _ _. record { accepted = refl; next = refl };
  adds = refl;
  moved_is = told;
  alone = refl;
  one_text = (gave, sends.pending);
  carries = λ taken b k. rw (append-nil b) (record {
    given = k.given;
    out_is = append_assoc taken gave o.pending ∙ ap (λ z. taken ++ z) (sym sends.pending) ∙ k.out_is;
    holds = k.holds;
    most_is = k.most_is;
    given_are = k.given_are;
    accepted_is = k.accepted_is;
    handed_is = k.handed_is;
    stage_is = live_stage e.stage (IsDone e H) _ (intake_of e H b k.given) live k.stage_is;
    halted_is = λ h. let x = k.halted_is h in record { drained = x.drained; stage = x.stage; unbroken = x.unbroken; goes_on = x.goes_on };
    closes_is = k.closes_is;
    closing_is = k.closing_is;
    told_is = k.told_is;
  });
}

-- A REQUEST IS ACCEPTED

-- what finishes a connection isn't refused
last_stays : (b : Behind) (r : Request) → finishes r ≡ true → closes_behind b r ≡ false
last_stays b r last =
    elim (cases_Bool (closes_behind b r)) [
      | inl f ↦ let g : true ≡ false = sym last ∙ closing_goes_on b r f in absurd cc
      | inr f ↦ f
    ]

-- where nothing has closed none of the requests does
unclosed : (c : Bool) (b : Behind) (rs : List Request) → (c ≡ true → ⊥) → ClosesAt c b rs → NoneCloses b rs
unclosed true b rs un at = absurd (un refl)
unclosed false b rs un none = none

module _ (e : Client) (r : Request') (pass : ℕ) (H : History) (a : Answer) (open_is : e.stage ≡ Stage.Open) (next : e.next ≡ Some r) (last : e.is_drained ≡ true → e.next ≡ Some Request'.Broken) (few : length (step_by pass (Event.Arrived e.conn r) a ∷ H) ≤ max_steps) where
  more_asked : asked_requests e.conn (step_by pass (Event.Arrived e.conn r) a ∷ H) ≡ asked_requests e.conn H ++ request_of r ∷ []
  more_asked = rw (eq-eqb e.conn e.conn refl) (map-append request_of (requests e.conn H) (r ∷ []))

  -- what is so after it, by how the engine goes on
  abbrev arrived_by : Stage → Bool → Bool → Client
  arrived_by stage halted closing = record e { next = None; accepted = min (e.accepted + 1) (2 ^ 64 - 1); stage = stage; is_halted = halted; is_closing = closing }

  abbrev after_it : History
  after_it = step_by pass (Event.Arrived e.conn r) a ∷ H

  arrived_as : (stage : Stage) (halted closing : Bool)
      → ((b : List ℕ) (given : List Request) → NoneFinishes (asked_requests e.conn H)
      → IsAtStage stage (IsDone (arrived_by stage halted closing) after_it) (intake_of (arrived_by stage halted closing) after_it b given))
      → ((e.is_halted ≡ true → ⊥) → NoneFinishes (asked_requests e.conn H) → halted ≡ true → IsHalted (arrived_by stage halted closing) after_it)
      → ((e.is_closing ≡ true → ⊥) → ClosesAt e.is_closing e.behind (asked_requests e.conn H) → ClosesAt closing e.behind (asked_requests e.conn after_it))
      → ((e.is_closing ≡ true → ⊥) → closing ≡ true → halted ≡ true)
      → (is_closed e.conn H ≡ false → IsToldAt stage (is_finishing e.conn after_it) (is_closed e.conn H))
      → Goes e (arrived_by stage halted closing) H after_it true
  arrived_as stage halted closing f halts closes both told =
      let mine : (e.conn == e.conn) ≡ true = eq-eqb e.conn e.conn refl in
      let new : Client = arrived_by stage halted closing in
      turn_goes e new H (step_by pass (Event.Arrived e.conn r) a) (rw mine refl) (whole_end e.outbox.pending) (λ d fit. absurd (fit (last d))) refl refl refl (refl, refl, refl) (refl, refl) (λ taken b k.
      let unhalted : e.is_halted ≡ true → ⊥ = open_unhalted e H open_is k.halted_is in
      let unclosing : e.is_closing ≡ true → ⊥ = λ h. unhalted (k.closing_is h) in
      let none = stage_at Stage.Open e H b k.given open_is k.stage_is in
      record {
        given = k.given;
        out_is = k.out_is ∙ sym (append-nil (transcript e.conn H));
        holds = k.holds;
        most_is = k.most_is;
        given_are = rw next at k.given_are ∙ sym more_asked ∙ sym (append-nil (asked_requests e.conn after_it));
        accepted_is = rw mine (omega (arith, k.accepted_is, few, history.times-length (is_arrival e.conn) H));
        handed_is = k.handed_is;
        stage_is = f b k.given none;
        halted_is = halts unhalted none;
        closes_is = closes unclosing k.closes_is;
        closing_is = both unclosing;
        told_is = told (rw open_is at k.told_is);
      })

  asked_on : finishes (request_of r) ≡ false → NoneFinishes (asked_requests e.conn H) → NoneFinishes (asked_requests e.conn after_it)
  asked_on goes_on none = subst (λ (z : List Request). NoneFinishes z) (sym more_asked) (none_finishes-one (asked_requests e.conn H) (request_of r) none goes_on)

  closes_on : closes_behind e.behind (request_of r) ≡ false → (e.is_closing ≡ true → ⊥) → ClosesAt e.is_closing e.behind (asked_requests e.conn H) → ClosesAt e.is_closing e.behind (asked_requests e.conn after_it)
  closes_on stays unclosing now = by e.is_closing unclosing now
    where
      by : (c : Bool) → (c ≡ true → ⊥) → ClosesAt c e.behind (asked_requests e.conn H) → ClosesAt c e.behind (asked_requests e.conn after_it)
      by true un now = absurd (un refl)
      by false un none = subst (λ (z : List Request). NoneCloses e.behind z) (sym more_asked) (none_closes-one e.behind (asked_requests e.conn H) (request_of r) none stays)

  pub arrived_on : finishes (request_of r) ≡ false → closes_behind e.behind (request_of r) ≡ false → Goes e (record e { next = None; accepted = min (e.accepted + 1) (2 ^ 64 - 1) }) H (step_by pass (Event.Arrived e.conn r) a ∷ H) true
  arrived_on goes_on stays =
      subst (λ (z : Stage). Goes e (record e { next = None; accepted = min (e.accepted + 1) (2 ^ 64 - 1); stage = z }) H (step_by pass (Event.Arrived e.conn r) a ∷ H) true) (sym open_is)
      (arrived_as Stage.Open e.is_halted e.is_closing (λ b given none. asked_on goes_on none) (λ un _ halted. absurd (un halted)) (closes_on stays) (λ un closing. absurd (un closing)) (λ unclosed. unclosed))

  pub arrived_last : finishes (request_of r) ≡ true → Goes e (record e { next = None; accepted = min (e.accepted + 1) (2 ^ 64 - 1); stage = Stage.Finishing }) H (step_by pass (Event.Arrived e.conn r) a ∷ H) true
  arrived_last is_last = arrived_as Stage.Finishing e.is_halted e.is_closing
      (λ b given none. inr (record { front = asked_requests e.conn H; last = request_of r; are = more_asked; goes_on = none; finishes = is_last }))
      (λ un _ halted. absurd (un halted)) (closes_on (last_stays e.behind (request_of r) is_last)) (λ un closing. absurd (un closing)) (λ unclosed. (rw (eq-eqb e.conn e.conn refl, is_last) refl, unclosed))

  pub arrived_closing : closes_behind e.behind (request_of r) ≡ true → Goes e (record e { next = None; accepted = min (e.accepted + 1) (2 ^ 64 - 1); stage = Stage.AtEnd; is_halted = true; is_closing = true }) H (step_by pass (Event.Arrived e.conn r) a ∷ H) true
  arrived_closing closes =
      let goes_on : finishes (request_of r) ≡ false = closing_goes_on e.behind (request_of r) closes in
      arrived_as Stage.AtEnd true true
      (λ b given none. (asked_on goes_on none, record { end = inl refl; all = λ no. absurd (true_not_false no); none_waits = λ no. absurd (true_not_false no) }))
      (λ _ none _. record { drained = inr refl; stage = λ o. absurd cc; unbroken = λ o. absurd cc; goes_on = asked_on goes_on none })
      (λ un now. record { front = asked_requests e.conn H; last = request_of r; are = more_asked; goes_on = unclosed e.is_closing e.behind (asked_requests e.conn H) un now; closes = closes })
      (λ _ _. refl) (λ unclosed. unclosed)

-- WHAT COMES IN

-- a request has come whole, or none has
pub fetched_goes : (e : Client) (i : InboxState) (next : Option Request') (H : History) → e.stage ≡ Stage.Open → e.next ≡ None → e.is_drained ≡ false → KeepsReader e.inbox i → i.values.most ≡ e.inbox.values.most
    → ((b : List ℕ) (rs : List Request) → Holds e.inbox b rs → Holds i b (rs ++ waiting_requests next)) → Goes e (record e { inbox = i; next = next }) H H false
fetched_goes e i next H open_is none reads kept most f = still_goes e (record e { inbox = i; next = next }) H (λ d _. absurd (true_not_false (sym d ∙ reads))) refl refl refl kept refl (λ taken b k. record {
  given = k.given ++ waiting_requests next;
  out_is = k.out_is;
  holds = behind_more e.inbox i (waiting_requests next) f b k.given k.holds;
  most_is = most ∙ k.most_is;
  given_are = ap (λ z. z ++ waiting_requests next) (rw (none, append-nil (asked_requests e.conn H)) at k.given_are);
  accepted_is = k.accepted_is;
  handed_is = k.handed_is;
  stage_is = subst (λ (z : Stage). IsAtStage z (IsDone (record e { inbox = i; next = next }) H) (intake_of (record e { inbox = i; next = next }) H b (k.given ++ waiting_requests next))) (sym open_is) (stage_at Stage.Open e H b k.given open_is k.stage_is);
  halted_is = open_unhalted e H open_is k.halted_is;
  closes_is = k.closes_is;
  closing_is = k.closing_is;
  told_is = k.told_is;
})

-- the reader of values went on, and gave none
pub kept_goes : (e : Client) (i : InboxState) (H : History) → e.stage ≡ Stage.Open → KeepsReader e.inbox i → i.values.most ≡ e.inbox.values.most
    → ((b : List ℕ) (rs : List Request) → Holds e.inbox b rs → Holds i b rs) → Goes e (record e { inbox = i }) H H false
kept_goes e i H open_is kept most f = still_goes e (record e { inbox = i }) H (untaken e (record e { inbox = i }) refl refl) refl refl refl kept refl (λ taken b k. record {
  given = k.given;
  out_is = k.out_is;
  holds = behind_kept e.inbox i f b k.given k.holds;
  most_is = most ∙ k.most_is;
  given_are = k.given_are;
  accepted_is = k.accepted_is;
  handed_is = k.handed_is;
  stage_is = subst (λ (z : Stage). IsAtStage z (IsDone (record e { inbox = i }) H) (intake_of (record e { inbox = i }) H b k.given)) (sym open_is) (stage_at Stage.Open e H b k.given open_is k.stage_is);
  halted_is = open_unhalted e H open_is k.halted_is;
  closes_is = k.closes_is;
  closing_is = k.closing_is;
  told_is = k.told_is;
})

pub fetched_holds : (i j : InboxState) (next : Option Request') → IfSome next (λ r. (b : List ℕ) (rs : List Request) → Holds i b rs → Holds j b (rs ++ request_of r ∷ []))
    → IfNone next ((b : List ℕ) (rs : List Request) → Holds i b rs → Holds j b rs) → (b : List ℕ) (rs : List Request) → Holds i b rs → Holds j b (rs ++ waiting_requests next)
fetched_holds i j None s n b rs h = rw (append-nil rs) (n b rs h)
fetched_holds i j (Some r) s n b rs h = s b rs h

-- bytes are read
pub read_holds : (i j : InboxState) (b : List ℕ) (rs : List Request) → i.values.refusal ≡ None → i.fresh ≡ [] → j.values ≡ i.values → Holds i b rs → Holds j (b ++ j.fresh) rs
read_holds i j b rs whole empty same h = record {
  fed = h.fed;
  given = h.given;
  bytes = ap (λ z. z ++ j.fresh) (h.bytes ∙ rw empty (append-nil h.fed));
  stands = rw same h.stands;
  requests = rw same h.requests;
  after = rw (same, whole) tt;
}

pub read_goes : (e : Client) (i : InboxState) (H : History) (moved : Bool) → moved ≡ has_moved i.fresh [] [] → e.stage ≡ Stage.Open → e.is_drained ≡ false → e.inbox.values.refusal ≡ None → e.inbox.fresh ≡ [] → Reads e.inbox i i.fresh → i.values ≡ e.inbox.values
    → Goes e (record e { inbox = i }) H H moved
read_goes e i H moved told open_is reads whole empty input same = record {
  got = i.fresh;
  gave = [];
  steps = [];
  reads = input;
  writes = writes-none e.outbox e.outbox (refl, refl);
  conn = refl;
  drained = refl;
  behind = refl;
  unread = λ d. absurd (true_not_false (sym d ∙ reads));
  untaken = λ _ _. record { accepted = refl; next = refl };
  adds = refl;
  moved_is = told;
  alone = refl;
  one_text = whole_end e.outbox.pending;
  carries = λ taken b k. rw (append-nil taken) (record {
    given = k.given;
    out_is = k.out_is;
    holds = behind_read e.inbox i i.fresh (λ x rs h. read_holds e.inbox i x rs whole empty same h) b k.given k.holds;
    most_is = ap (λ z. z.most) same ∙ k.most_is;
    given_are = k.given_are;
    accepted_is = k.accepted_is;
    handed_is = k.handed_is;
    stage_is = subst (λ (z : Stage). IsAtStage z (IsDone (record e { inbox = i }) H) (intake_of (record e { inbox = i }) H (b ++ i.fresh) k.given)) (sym open_is) (stage_at Stage.Open e H b k.given open_is k.stage_is);
    halted_is = open_unhalted e H open_is k.halted_is;
    closes_is = k.closes_is;
    closing_is = k.closing_is;
    told_is = k.told_is;
  });
}

-- no byte is read any more
pub over_goes : (e : Client) (H : History) → e.stage ≡ Stage.Open → e.next ≢ Some Request'.Broken → (e.is_drained ≡ false → e.next ≡ None) → (e.is_drained ≡ false → HasGivenAll e.inbox) → IsOver e.is_drained e.inbox
    → Goes e (record e { stage = Stage.AtEnd; is_halted = e.is_drained }) H H false
over_goes e H open_is unbroken none all over = still_goes e (record e { stage = Stage.AtEnd; is_halted = e.is_drained }) H (untaken e (record e { stage = Stage.AtEnd; is_halted = e.is_drained }) refl refl) refl refl refl (refl, refl, refl) refl (λ taken b k. record {
  given = k.given;
  out_is = k.out_is;
  holds = k.holds;
  most_is = k.most_is;
  given_are = k.given_are;
  accepted_is = k.accepted_is;
  handed_is = k.handed_is;
  stage_is = (stage_at Stage.Open e H b k.given open_is k.stage_is, record { end = over; all = λ f. behind_all e.inbox b k.given k.most_is (all f) k.holds; none_waits = none });
  halted_is = λ h. record { drained = inl h; stage = λ o. absurd cc; unbroken = unbroken; goes_on = stage_at Stage.Open e H b k.given open_is k.stage_is };
  closes_is = k.closes_is;
  closing_is = λ h. open_unhalted e H open_is k.halted_is (k.closing_is h);
  told_is = rw open_is at k.told_is;
})

-- A DRAIN

-- a stage looks at the end alone, whether all is done
stage_drained : (s : Stage) (D E : Type 0) (x : Intake) → (D → E)
    → IsAtStage s D x → IsAtStage s E x
stage_drained Stage.Open D E x f at = at
stage_drained Stage.AtEnd D E x f at = at
stage_drained Stage.Finishing D E x f at = at
stage_drained Stage.Failed D E x f at = at
stage_drained (Stage.Closed true) D E x f at = at
stage_drained (Stage.Closed false) D E x f at = (at.0, f at.1)

pub drained_carries : (e : Client) (H : History) (taken b : List ℕ) → Carries e H taken b → Carries (record e { is_drained = true }) H taken b
drained_carries e H taken b k = record {
  given = k.given;
  out_is = k.out_is;
  holds = k.holds;
  most_is = k.most_is;
  given_are = k.given_are;
  accepted_is = k.accepted_is;
  handed_is = k.handed_is;
  stage_is = stage_drained e.stage (IsDone e H) (IsDone (record e { is_drained = true }) H) (intake_of e H b k.given)
      (λ d. record { all_written = d.all_written; all_handed = d.all_handed; closed = d.closed }) k.stage_is;
  halted_is = λ h. let x = k.halted_is h in record { drained = inl refl; stage = x.stage; unbroken = x.unbroken; goes_on = x.goes_on };
  closes_is = k.closes_is;
  closing_is = k.closing_is;
  told_is = k.told_is;
}

-- OTHERS' STEPS

module _ (e : Client) (H later : History) (others : connection_steps e.conn later ≡ []) where
  same_of_conn : SameOfConnection e.conn H (later ++ H)
  same_of_conn = history.SameOfConnection-append e.conn later H others

  stage_beside : (s : Stage) (b : List ℕ) (given : List Request) → IsAtStage s (IsDone e H) (intake_of e H b given) → IsAtStage s (IsDone e (later ++ H)) (intake_of e H b given)
  stage_beside Stage.Open b given at = at
  stage_beside Stage.AtEnd b given at = at
  stage_beside Stage.Finishing b given at = at
  stage_beside Stage.Failed b given at = at
  stage_beside (Stage.Closed true) b given at = at
  stage_beside (Stage.Closed false) b given at = (at.0, record { all_written = at.1.all_written; all_handed = at.1.all_handed; closed = same_of_conn.same_closed ∙ at.1.closed })

  pub carries_beside : (taken b : List ℕ) → Carries e H taken b → Carries e (later ++ H) taken b
  carries_beside taken b k =
      let same = same_of_conn in
      let asks : asked_requests e.conn (later ++ H) ≡ asked_requests e.conn H = ap (map request_of) same.same_requests in
      record {
        given = k.given;
        out_is = k.out_is ∙ sym same.same_transcript;
        holds = k.holds;
        most_is = k.most_is;
        given_are = k.given_are ∙ ap (λ z. z ++ waiting_requests e.next) (sym asks);
        accepted_is = k.accepted_is ∙ sym same.same_accepted;
        handed_is = k.handed_is ∙ sym same.same_handed;
        stage_is = subst (λ (z : List Request). IsAtStage e.stage (IsDone e (later ++ H)) (record { asked = z; is_halted = e.is_halted; inbox = e.inbox; next = e.next; bytes = b; given = k.given })) (sym asks) (stage_beside e.stage b k.given k.stage_is);
        halted_is = λ h. let x = k.halted_is h in record { drained = x.drained; stage = x.stage; unbroken = x.unbroken; goes_on = subst (λ (z : List Request). NoneFinishes z) (sym asks) x.goes_on };
        closes_is = subst (λ (z : List Request). ClosesAt e.is_closing e.behind z) (sym asks) k.closes_is;
        closing_is = k.closing_is;
        told_is = subst (λ (z : Bool). IsToldAt e.stage z (is_closed e.conn (later ++ H))) (sym same.same_finishing) (subst (λ (z : Bool). IsToldAt e.stage (is_finishing e.conn H) z) (sym same.same_closed) k.told_is);
      }

-- THE BEGINNING

pub opened_carries : (conn pass : ℕ) (behind : Behind) (i : InboxState) (o : OutboxState) (next : Option Request') (H : History) (b : List ℕ) → connection_steps conn H ≡ [] → o.pending ≡ [] → i.values.most ≡ MAX_CLIENT_MEMBERS → HoldsBehind i b (waiting_requests next)
    → Carries (record { conn = conn; inbox = i; outbox = o; next = next; accepted = 0; handed = 0; stage = Stage.Open; is_drained = false; is_halted = false; behind = behind; is_closing = false }) (step_by pass Event.Opened (Answer.Opened conn) ∷ H) [] b
opened_carries conn pass behind i o next H b none empty most holds =
    let same = history.SameOfConnection-connection_steps conn H in
    let no_text : transcript conn H ≡ [] = sym same.same_transcript ∙ ap (transcript conn) none in
    let no_request : requests conn H ≡ [] = sym same.same_requests ∙ ap (requests conn) none in
    record {
      given = waiting_requests next;
      out_is = rw (no_text, empty) refl;
      holds = holds;
      most_is = most;
      given_are = rw no_request refl;
      accepted_is = ap (accepted_count conn) (sym none) ∙ same.same_accepted;
      handed_is = ap (handed_count conn) (sym none) ∙ same.same_handed;
      stage_is = rw no_request refl;
      halted_is = λ h. absurd cc;
      closes_is = rw no_request refl;
      closing_is = λ h. absurd cc;
      told_is = sym same.same_closed ∙ ap (is_closed conn) none;
    }
