-- What is told where an event is known.
use Rattle.std.proofs.Common.{◌≡◌, List, [], Result, Ok, Err, IfOk, ℕ, refl, sym, ap, ◌∙◌}
use Rattle.ketama.specs.Continuum.{Continuum}
use Rattle.ejector.specs.declared.mark.Mark.{Mark}
use Rattle.ejector.specs.declared.settings.Rules.{Rules}
use Rattle.ejector.specs.State.{State}
use Rattle.ejector.specs.Ejection.{state}
use Rattle.proxy_history.specs.Setting.{Setting}
use Rattle.proxy_history.specs.Part.{Part, Past}
use Rattle.proxy_history.specs.Answer.{answer_to}
use Rattle.proxy_history.specs.Cause.{own_cause}
use Rattle.proxy_history.specs.History.{History, Step}
use Rattle.proxy_history.specs.Past.{past, parts_in, sent_in, marks_in}
use Rattle.test_reference.specs.Scan.{Shows, history_of, parts_of, past_of_scan}
use Rattle.test_reference.specs.declared.replay.Replay.{Replay}
use Rattle.resp_core.specs.declared.value.Value.{Value}
use Rattle.proxy_history.specs.declared.event.Kind.{Kind}
use Rattle.proxy_history.specs.declared.event.Event.TheVariants.{Opened, Arrived, Finished, Taken, Answered, Failed, Swept, Handed, Closed}
use Rattle.proxy_history.specs.declared.event.Event.{Event}
use Rattle.proxy_history.specs.declared.answer.Answer.{Answer}

-- the answer to an event, in each setting of this ring and these rules, where the ejector is in this state
abbrev pub IsAnswer : Continuum → Rules → State → (List Mark → Past) → Event → Answer → Type 0
IsAnswer ring rules now x event a = (S : Setting) (marks : List Mark) → S.ring ≡ ring → S.rules ≡ rules → now ≡ state S.rules S.opening marks → a ≡ answer_to S (x marks) event

pub told_of : {E : Type 0} (r : Result Answer E) (ring : Continuum) (rules : Rules) (now : State) (x : List Mark → Past) (event event' : Event) → event' ≡ event
    → IfOk r (λ a. IsAnswer ring rules now x event a) → IfOk r (λ a. IsAnswer ring rules now x event' a)
told_of (Ok a) ring rules now x event event' e h = λ S marks f g k. h S marks f g k ∙ ap (answer_to S (x marks)) (sym e)
told_of (Err error) ring rules now x event event' e h = tt

pub by_host : {E : Type 0} (r : Result Answer E) (ring : Continuum) (rules : Rules) (now : State) (x : List Mark → Past) (event : Event)
    → IfOk r (λ a. (S : Setting) (marks : List Mark) → a ≡ answer_to S (x marks) event) → IfOk r (λ a. IsAnswer ring rules now x event a)
by_host (Ok a) ring rules now x event h = λ S marks f g k. h S marks
by_host (Err error) ring rules now x event h = tt

-- where the answer is told of any past with these marks
pub by_reply : {E : Type 0} (r : Result Answer E) (ring : Continuum) (rules : Rules) (now : State) (steps : List Step) (replay : Replay) (host epoch t : ℕ) (value : Value)
    → IfOk r (λ a. (S : Setting) (y : Past) (e : ℕ) (v : Value) → S.rules ≡ rules → now ≡ state S.rules S.opening y.marks → a ≡ answer_to S y (Answered host e v t))
    → IfOk r (λ a. IsAnswer ring rules now (λ marks. past_of_scan steps marks replay) (Answered host epoch value t) a)
by_reply (Ok a) ring rules now steps replay host epoch t value h = λ S marks f g k. h S (past_of_scan steps marks replay) epoch value g k
by_reply (Err error) ring rules now steps replay host epoch t value h = tt

pub by_fault : {E : Type 0} (r : Result Answer E) (ring : Continuum) (rules : Rules) (now : State) (steps : List Step) (replay : Replay) (host epoch t : ℕ) (kind : Kind)
    → IfOk r (λ a. (S : Setting) (marks : List Mark) (e : ℕ) → S.rules ≡ rules → now ≡ state S.rules S.opening marks → a ≡ answer_to S (past_of_scan steps marks replay) (Failed host e kind t))
    → IfOk r (λ a. IsAnswer ring rules now (λ marks. past_of_scan steps marks replay) (Failed host epoch kind t) a)
by_fault (Ok a) ring rules now steps replay host epoch t kind h = λ S marks f g k. h S marks epoch g k
by_fault (Err error) ring rules now steps replay host epoch t kind h = tt

pub by_sweep : {E : Type 0} (r : Result Answer E) (ring : Continuum) (rules : Rules) (now : State) (steps : List Step) (replay : Replay) (t : ℕ)
    → IfOk r (λ a. (S : Setting) (y : Past) → S.rules ≡ rules → now ≡ state S.rules S.opening y.marks → a ≡ answer_to S y (Swept t))
    → IfOk r (λ a. IsAnswer ring rules now (λ marks. past_of_scan steps marks replay) (Swept t) a)
by_sweep (Ok a) ring rules now steps replay t h = λ S marks f g k. h S (past_of_scan steps marks replay) g k
by_sweep (Err error) ring rules now steps replay t h = tt

-- the state of a replay that shows a history
pub told_here : (S : Setting) (H : History) (steps : List Step) (r : Replay) (a : Answer) (event : Event) → H ≡ history_of steps → Shows S H r
    → IsAnswer S.ring S.rules r.ejector.state (λ marks. past_of_scan steps marks r) event a → a ≡ answer_to S (past S H) event
told_here S H steps r a event e shows told =
    told S (marks_in S H) refl refl shows.state
    ∙ ap (λ (ps : List Part). answer_to S (record { steps = history_of steps; parts = ps; sent = parts_of r.sent.items; marks = marks_in S H }) event) shows.parts
    ∙ ap (λ (ss : List Part). answer_to S (record { steps = history_of steps; parts = parts_in S H; sent = ss; marks = marks_in S H }) event) shows.sent
    ∙ ap (λ (h : History). answer_to S (record { steps = h; parts = parts_in S H; sent = sent_in S H; marks = marks_in S H }) event) (sym e)

-- a cause doesn't hang on the marks
pub cause_here : (S : Setting) (H : History) (steps : List Step) (r : Replay) (event : Event) → H ≡ history_of steps → Shows S H r
    → own_cause S (past_of_scan steps [] r) event ≡ own_cause S (past S H) event
cause_here S H steps r event e shows =
    ap (λ (ps : List Part). own_cause S (record { steps = history_of steps; parts = ps; sent = parts_of r.sent.items; marks = [] }) event) shows.parts
    ∙ ap (λ (ss : List Part). own_cause S (record { steps = history_of steps; parts = parts_in S H; sent = ss; marks = [] }) event) shows.sent
    ∙ ap (λ (h : History). own_cause S (record { steps = h; parts = parts_in S H; sent = sent_in S H; marks = [] }) event) (sym e)
    ∙ no_marks S event
  where
    no_marks : (S : Setting) (event : Event) → own_cause S (record { steps = H; parts = parts_in S H; sent = sent_in S H; marks = [] }) event ≡ own_cause S (past S H) event
    no_marks S Opened = refl
    no_marks S (Arrived conn request) = refl
    no_marks S (Finished conn) = refl
    no_marks S (Taken host) = refl
    no_marks S (Answered host epoch value t) = refl
    no_marks S (Failed host epoch kind t) = refl
    no_marks S (Swept t) = refl
    no_marks S (Handed conn) = refl
    no_marks S (Closed conn) = refl
