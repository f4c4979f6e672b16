-- What the plain program keeps of a history, one step on.
use Rattle.std.proofs.Common.{◌≡◌, ℕ, List, [], ◌∷◌, ◌++◌, refl, sym, ap, ◌∙◌}
use Rattle.std.proofs.lemmas.List.{map-append}
use Rattle.ejector.specs.declared.mark.Mark.{Mark}
use Rattle.ejector.specs.State.{State}
use Rattle.ejector.specs.Ejection.{state}
use Rattle.proxy_history.specs.Setting.{Setting}
use Rattle.proxy_history.specs.History.{Step}
use Rattle.proxy_history.specs.Past.{parts_in, sent_in, marks_in, past}
use Rattle.proxy_history.specs.Waiting.{sent_by}
use Rattle.proxy_history.specs.Arrival.{parts_by}
use Rattle.proxy_history.specs.Marks.{is_excused, mark_by}
use Rattle.test_reference.specs.Scan.{Shows, past_of_scan, history_of, part_of, parts_of}
use Rattle.test_reference.specs.declared.part.Part.{Part as Part'}
use Rattle.test_reference.specs.declared.replay.Replay.{Replay}
use Rattle.proxy_history.specs.declared.event.Kind.{Kind}
use Rattle.proxy_history.specs.declared.event.Kind.TheVariants.{Refused, Dropped, Late, Garbled}
use Rattle.proxy_history.specs.declared.event.Event.{Event}
use Rattle.proxy_history.specs.declared.event.Event.TheVariants.{Opened, Arrived, Finished, Taken, Answered, Failed, Swept, Handed, Closed}

seen-past : (S : Setting) (steps : List Step) (r : Replay) → Shows S (history_of steps) r → past_of_scan steps (marks_in S (history_of steps)) r ≡ past S (history_of steps)
seen-past S steps r h = rw (h.parts, h.sent) refl

-- the marks that were before change neither what is sent nor what is marked
sent_by-any : (steps : List Step) (marks : List Mark) (r : Replay) (e : Event) → sent_by (past_of_scan steps [] r) e ≡ sent_by (past_of_scan steps marks r) e
sent_by-any steps marks r Opened = refl
sent_by-any steps marks r (Arrived conn request) = refl
sent_by-any steps marks r (Finished conn) = refl
sent_by-any steps marks r (Taken host) = refl
sent_by-any steps marks r (Answered host epoch value t) = refl
sent_by-any steps marks r (Failed host epoch kind t) = refl
sent_by-any steps marks r (Swept t) = refl
sent_by-any steps marks r (Handed conn) = refl
sent_by-any steps marks r (Closed conn) = refl

is_excused-any : (steps : List Step) (marks : List Mark) (r : Replay) (h : ℕ) (k : Kind) → is_excused (past_of_scan steps [] r) h k ≡ is_excused (past_of_scan steps marks r) h k
is_excused-any steps marks r h Refused = refl
is_excused-any steps marks r h Dropped = refl
is_excused-any steps marks r h Late = refl
is_excused-any steps marks r h Garbled = refl

mark_by-any : (steps : List Step) (marks : List Mark) (r : Replay) (e : Event) → mark_by (past_of_scan steps [] r) e ≡ mark_by (past_of_scan steps marks r) e
mark_by-any steps marks r Opened = refl
mark_by-any steps marks r (Arrived conn request) = refl
mark_by-any steps marks r (Finished conn) = refl
mark_by-any steps marks r (Taken host) = refl
mark_by-any steps marks r (Answered host epoch value t) = refl
mark_by-any steps marks r (Failed host epoch kind t) = rw (is_excused-any steps marks r host kind) refl
mark_by-any steps marks r (Swept t) = refl
mark_by-any steps marks r (Handed conn) = refl
mark_by-any steps marks r (Closed conn) = refl

pub shows-grown : (S : Setting) (steps : List Step) (s : Step) (event : Event) (r r' : Replay) (brought sent : List Part')
    → s.event ≡ event → Shows S (history_of steps) r
    → parts_of brought ≡ parts_by S (past_of_scan steps (marks_in S (history_of steps)) r) event
    → parts_of sent ≡ sent_by (past_of_scan steps [] r) event
    → r'.parts.items ≡ r.parts.items ++ brought → r'.sent.items ≡ r.sent.items ++ sent
    → r'.ejector.rules ≡ r.ejector.rules
    → ((O : State) (marks : List Mark) → state r.ejector.rules O marks ≡ r.ejector.state → r'.ejector.state ≡ state r.ejector.rules O (mark_by (past_of_scan steps [] r) event ++ marks))
    → Shows S (s ∷ history_of steps) r'
shows-grown S steps s event r r' brought sent e h pb sb pe se re me =
    let H = history_of steps in
    let before = past S H in
    let same : past_of_scan steps (marks_in S H) r ≡ before = seen-past S steps r h in
    let known : state r.ejector.rules S.opening (marks_in S H) ≡ r.ejector.state = ap (λ z. state z S.opening (marks_in S H)) h.rules ∙ sym h.state in
    record {
      parts = ap parts_of pe ∙ map-append part_of r.parts.items brought ∙ ap (λ z. z ++ parts_of brought) h.parts
          ∙ ap (λ z. parts_in S H ++ z) (pb ∙ ap (λ z. parts_by S z event) same ∙ ap (parts_by S before) (sym e));
      sent = ap parts_of se ∙ map-append part_of r.sent.items sent ∙ ap (λ z. z ++ parts_of sent) h.sent
          ∙ ap (λ z. sent_in S H ++ z) (sb ∙ sent_by-any steps (marks_in S H) r event ∙ ap (λ z. sent_by z event) same ∙ ap (sent_by before) (sym e));
      rules = re ∙ h.rules;
      state = me S.opening (marks_in S H) known ∙ ap (λ z. state z S.opening (mark_by (past_of_scan steps [] r) event ++ marks_in S H)) h.rules
          ∙ ap (λ z. state S.rules S.opening (z ++ marks_in S H)) (mark_by-any steps (marks_in S H) r event ∙ ap (λ z. mark_by z event) same ∙ ap (mark_by before) (sym e));
    }
