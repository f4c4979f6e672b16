-- What is sent, and what goes out for it.
use Rattle.std.proofs.Common.{◌≡◌, ℕ, true, false, ◌==◌, List, [], ◌∷◌, ◌++◌, length, filter, None, refl, sym, ap, ◌∙◌, inl, inr}
use Rattle.std.specs.List.{flat_map}
use Rattle.std.proofs.lemmas.Bool.{cases_Bool, eqb-true, eqb-false, false_from_ne_true}
use Rattle.std.proofs.lemmas.List.{append-nil}
use Rattle.std.proofs.lemmas.List.Elements.{filter-append}
use Rattle.std.proofs.lemmas.List.Concat.{flat_map-append}
use Rattle.proxy_history.specs.Setting.{Setting}
use Rattle.proxy_history.specs.History.{History, Step, epoch}
use Rattle.proxy_history.specs.Part.{Past, Part, is_of}
use Rattle.proxy_history.specs.Past.{past}
use Rattle.proxy_history.specs.Waiting.{waiting_parts, waits, first, sent_by, sent_to}
use Rattle.proxy_history.specs.Cause.{own_cause, causes}
use Rattle.proxy_history.specs.Legal.{IsLegal, MayFollow}
use Rattle.proxy_history.specs.Answer.{answer_to, text_of_first}
use Rattle.proxy_history.specs.Output.{sent_text, upstream}
use Rattle.proxy_history.specs.SendingLaws.{Sends, SendsNothingElse}
use Rattle.proxy_history.specs.declared.answer.Answer.TheVariants as answer
use Rattle.proxy_history.specs.declared.event.Event.{Event}
use Rattle.proxy_history.specs.declared.event.Event.TheVariants.{Taken}
use Rattle.proxy_history.proofs.causes.NoCauseLemmas.{are_false}
use Rattle.proxy_history.proofs.parts.FilterLemmas.{AreGood, filter_is_good, waits_parts}
use Rattle.proxy_history.proofs.outcomes.ValueLemmas.{same_host, is_of_parts}

-- THE FIRST THAT WAITS

-- who waits is of the pipe of its host in the present epoch
of_present : (h : ℕ) (x : Past) (ps : List Part) → AreGood (waits h x) ps
    → filter (is_of h (epoch h x.steps)) (first ps) ≡ first ps
of_present h x [] g = refl
of_present h x (p ∷ ps) g = rw ((waits_parts h x p g.0).0) refl

-- and of no other
of_no_other : (h host e : ℕ) (x : Past) (ps : List Part) → AreGood (waits host x) ps
    → (host ≡ h → epoch host x.steps ≡ e → ⊥) → filter (is_of h e) (first ps) ≡ []
of_no_other h host e x [] g f = refl
of_no_other h host e x (p ∷ ps) g f =
    let no : is_of h e p ≡ false = false_from_ne_true (is_of h e p) (λ t.
    let a = is_of_parts host (epoch host x.steps) p (waits_parts host x p g.0).0 in
    let b = is_of_parts h e p t in
    f (same_host host h p.host a.0 b.0) (sym a.1 ∙ b.1)) in
    rw no refl

sent_to_next : (S : Setting) (before : History) (s : Step) (h e : ℕ)
    → sent_to h e (past S (s ∷ before))
    ≡ sent_to h e (past S before) ++ filter (is_of h e) (sent_by (past S before) s.event)
sent_to_next S before s h e = filter-append (is_of h e) (past S before).sent (sent_by (past S before) s.event)

-- EACH TAKEN STEP

taken_sends : (S : Setting) (before : History) (s : Step) (h : ℕ) (ps : List Part)
    → MayFollow S (past S before) s → s.event ≡ Taken h → waiting_parts h (past S before) ≡ ps
    → (length ps == 0) ≡ false → Sends S before s h
taken_sends S before s h [] m e w n = absurd cc
taken_sends S before s h (p ∷ ps) m e w n =
    let x = past S before in
    let front : first (waiting_parts h x) ≡ p ∷ [] = rw w refl in
    record {
      part = p;
      rest = ps;
      is_first = w;
      is_sent = ap (λ z. x.sent ++ sent_by x z) e ∙ ap (λ z. x.sent ++ z) front;
      is_last = sent_to_next S before s h (epoch h before)
          ∙ ap (λ z. sent_to h (epoch h before) x ++ filter (is_of h (epoch h before)) (sent_by x z)) e
          ∙ ap (λ z. sent_to h (epoch h before) x ++ z) (of_present h x (waiting_parts h x) (filter_is_good (waits h x) x.parts) ∙ front);
      goes_out = m.is_answered ∙ ap (answer_to S x) e
          ∙ ap (λ z. answer.Sent (epoch h before) (length (sent_to h (epoch h before) x)) (text_of_first z)) w;
    }

pub each_taken_sends : (S : Setting) (before : History) (s : Step) (h : ℕ) → IsLegal S (s ∷ before)
    → s.event ≡ Taken h → Sends S before s h
each_taken_sends S before s h legal e =
    let n : own_cause S (past S before) (Taken h) ≡ None = rw e at legal.1.has_no_cause in
    let a = are_false (causes S (past S before) (Taken h)) n in
    taken_sends S before s h (waiting_parts h (past S before)) legal.1 e refl a.1.0

-- NOTHING ELSE

none_by : (x : Past) (event : Event) (h e : ℕ) → (event ≡ Taken h → epoch h x.steps ≡ e → ⊥)
    → filter (is_of h e) (sent_by x event) ≡ []
none_by x (Taken host) h e f =
    of_no_other h host e x (waiting_parts host x) (filter_is_good (waits host x) x.parts)
    (λ same now. f (ap (λ k. Taken k) same) (ap (λ k. epoch k x.steps) (sym same) ∙ now))
none_by x _ h e f = refl

-- what was sent to others, or in another epoch
pub sent_to-others : (S : Setting) (before : History) (s : Step) (h e : ℕ)
    → (s.event ≡ Taken h → epoch h before ≡ e → ⊥)
    → sent_to h e (past S (s ∷ before)) ≡ sent_to h e (past S before)
sent_to-others S before s h e f =
    sent_to_next S before s h e
    ∙ ap (λ z. sent_to h e (past S before) ++ z) (none_by (past S before) s.event h e f)
    ∙ append-nil (sent_to h e (past S before))

sends_nothing : (x : Past) (event : Event) → ((h : ℕ) → event ≡ Taken h → ⊥) → sent_by x event ≡ []
sends_nothing x (Taken host) f = absurd (f host refl)
sends_nothing x _ f = refl

pub nothing_else_is_sent : (S : Setting) (before : History) (s : Step) → SendsNothingElse S before s
nothing_else_is_sent S before s =
    let x = past S before in
    record {
      to_others = sent_to-others S before s;
      by_others = λ f. ap (λ z. x.sent ++ z) (sends_nothing x s.event f) ∙ append-nil x.sent;
    }

-- THE WHOLE RUN

abbrev texts : List Part → List ℕ
texts ps = flat_map (λ (p : Part). p.text) ps

text_of_one : (ps : List Part) → text_of_first ps ≡ texts (first ps)
text_of_one [] = refl
text_of_one (p ∷ ps) = sym (append-nil p.text)

text_by : (S : Setting) (x : Past) (event : Event) (h e : ℕ)
    → sent_text h e event (answer_to S x event) ≡ texts (filter (is_of h e) (sent_by x event))
text_by S x (Taken host) h e = elim (cases_Bool (host == h)) [
  | inl t ↦ elim (cases_Bool (epoch host x.steps == e)) [
    | inl u ↦ rw (t, u) (text_of_one (waiting_parts host x) ∙ ap texts (sym (here t u)))
    | inr v ↦ rw (t, v) (sym (ap texts (other (λ same now. eqb-false (epoch host x.steps) e v now))))
  ]
  | inr f ↦ rw f (sym (ap texts (other (λ same now. eqb-false host h f same))))
]
  where
    here : (host == h) ≡ true → (epoch host x.steps == e) ≡ true
        → filter (is_of h e) (first (waiting_parts host x)) ≡ first (waiting_parts host x)
    here t u =
        rw (sym (eqb-true host h t), sym (eqb-true (epoch host x.steps) e u)) (of_present host x (waiting_parts host x) (filter_is_good (waits host x) x.parts))

    other : (host ≡ h → epoch host x.steps ≡ e → ⊥) → filter (is_of h e) (first (waiting_parts host x)) ≡ []
    other f = of_no_other h host e x (waiting_parts host x) (filter_is_good (waits host x) x.parts) f
text_by S x _ h e = refl

pub upstream_is_what_was_sent : (S : Setting) (H : History) (h e : ℕ) → IsLegal S H
    → upstream h e H ≡ flat_map (λ (p : Part). p.text) (sent_to h e (past S H))
upstream_is_what_was_sent S [] h e legal = refl
upstream_is_what_was_sent S (s ∷ before) h e legal =
    let x = past S before in
    ap (λ z. upstream h e before ++ sent_text h e s.event z) legal.1.is_answered
    ∙ ap (λ z. upstream h e before ++ z) (text_by S x s.event h e)
    ∙ ap (λ z. z ++ texts (filter (is_of h e) (sent_by x s.event))) (upstream_is_what_was_sent S before h e legal.0)
    ∙ sym (ap texts (sent_to_next S before s h e) ∙ flat_map-append (λ (p : Part). p.text) (sent_to h e x) (filter (is_of h e) (sent_by x s.event)))
