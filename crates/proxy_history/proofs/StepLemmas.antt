-- What holds of each step of a legal history by itself.
use Rattle.std.proofs.Common.{◌≡◌, ℕ, ◌+◌, ◌≤◌, false, not, ◌==◌, nat_lt, [], ◌∷◌, length, Option, Some, None, refl, sym, ap, ◌∙◌, subst, inl, inr, arith}
use Rattle.std.proofs.lemmas.Bool.{cases_Bool, and_parts, not-false, ltb-true, eqb-true, ne_eqb, or_from}
use Rattle.command_table.specs.Table.{Row, row_named}
use Rattle.command_table.specs.declared.Kind.{Kind}
use Rattle.command_table.specs.declared.Kind.TheVariants.{Ping, Echo, Quit, One, SplitGet, SplitSet, SplitSum}
use Rattle.resp_core.specs.Command.{is_command, words_of, word}
use Rattle.splitter.specs.Request.{Request, read, broken, request_of}
use Rattle.splitter.specs.Plan.{takes, plan_by, plan_by_row, plan_of, is_last}
use Rattle.splitter.specs.Split.{Words}
use Rattle.proxy_history.specs.Setting.{Setting}
use Rattle.proxy_history.specs.History.{History, Step, openings, epoch, is_opening, is_closed, is_open}
use Rattle.proxy_history.specs.Part.{Past}
use Rattle.proxy_history.specs.Past.{past}
use Rattle.proxy_history.specs.Cause.{own_cause, causes}
use Rattle.proxy_history.specs.Answer.{answer_to, local_of}
use Rattle.proxy_history.specs.Legal.{IsLegal, MayFollow}
use Rattle.proxy_history.specs.OwnSteps.{is_connection_step, connection_steps}
use Rattle.proxy_history.specs.StepLaws.{is_last_answer, IsAnswerTo, IsOfPresentEpoch}
use Rattle.proxy_history.specs.declared.event.Event.{Event}
use Rattle.proxy_history.specs.declared.event.Event.TheVariants.{Opened, Arrived, Finished, Taken, Answered, Failed, Handed, Closed}
use Rattle.proxy_history.specs.declared.answer.Answer.{Answer}
use Rattle.proxy_history.specs.declared.answer.Answer.TheVariants as answer
use Rattle.proxy_history.proofs.causes.NoCauseLemmas.{are_false, is_current}
use Rattle.proxy_history.proofs.GrowthLemmas.{times_grows}

-- ANSWERS

last_by : (k : Kind) (r : Row) (ws : Words)
    → is_last_answer (local_of (plan_by k r ws)) ≡ is_last (plan_by k r ws)
last_by Ping r ws = refl
last_by Echo r ws = refl
last_by Quit r ws = refl
last_by One r ws = refl
last_by SplitGet r ws = refl
last_by SplitSet r ws = refl
last_by SplitSum r ws = refl

last_by_row : (o : Option Row) (ws : Words)
    → is_last_answer (local_of (plan_by_row o ws)) ≡ is_last (plan_by_row o ws)
last_by_row None ws = refl
last_by_row (Some r) ws = elim (cases_Bool (takes r.kind r.least (length ws))) [ inl t ↦ rw t (last_by r.kind r ws) | inr f ↦ rw f refl ]

last_of : (q : Request) → is_last_answer (local_of (plan_of q)) ≡ is_last (plan_of q)
last_of broken = refl
last_of (read t) = elim (cases_Bool (is_command t)) [ inl c ↦ rw c (last_by_row (row_named (word (words_of t) 0)) (words_of t)) | inr f ↦ rw f refl ]

answer_fits : (S : Setting) (x : Past) (event : Event) → IsAnswerTo event (answer_to S x event)
answer_fits S x (Arrived conn request) = last_of (request_of request)
answer_fits S x _ = tt

pub answers_fit : (S : Setting) (before : History) (s : Step) → IsLegal S (s ∷ before)
    → IsAnswerTo s.event s.answer
answers_fit S before s legal = subst (IsAnswerTo s.event) (sym legal.1.is_answered) (answer_fits S (past S before) s.event)

-- EPOCHS

present_epoch : (S : Setting) (H : History) (event : Event) → own_cause S (past S H) event ≡ None → IsOfPresentEpoch H event (answer_to S (past S H) event)
present_epoch S H (Taken host) n = refl
present_epoch S H (Answered host e value t) n = is_current S (past S H) host e t value n
present_epoch S H (Failed host e kind t) n =
    let a = are_false (causes S (past S H) (Failed host e kind t)) n in
    eqb-true e (epoch host H) (not-false (e == epoch host H) a.1.0)
present_epoch S H _ n = tt

pub epochs_are_present : (S : Setting) (before : History) (s : Step) → IsLegal S (s ∷ before)
    → IsOfPresentEpoch before s.event s.answer
epochs_are_present S before s legal =
    subst (IsOfPresentEpoch before s.event) (sym legal.1.is_answered) (present_epoch S before s.event legal.1.has_no_cause)

-- OPENINGS

-- an open connection is one of those opened
of_opened : (c conn : ℕ) (H : History) → not (is_open conn H) ≡ false → openings H ≤ c → (conn == c) ≡ false
of_opened c conn H e most =
    let below =
    ltb-true conn (openings H) (and_parts (nat_lt conn (openings H)) (not (is_closed conn H)) (not-false (is_open conn H) e)).0 in
    ne_eqb conn c (λ same. omega (arith, same, below, most))

-- a step is of no connection that is opened later
of_none_later : (S : Setting) (H : History) (c : ℕ) (s : Step) → MayFollow S (past S H) s → openings (s ∷ H) ≤ c
    → is_connection_step c s.event s.answer ≡ false
of_none_later S H c s may most = subst (λ (z : Answer). is_connection_step c s.event z ≡ false) (sym may.is_answered) (by_event s.event refl)
  where
    before : openings H ≤ c
    before = omega (arith, most, times_grows is_opening s H)

    one_more : s.event ≡ Opened → openings (s ∷ H) ≡ openings H + 1
    one_more is = rw is refl

    by_event : (event : Event) → s.event ≡ event
        → is_connection_step c event (answer_to S (past S H) event) ≡ false
    by_event Opened is = or_from _ _ (ne_eqb (openings H) c (λ same. omega (arith, same, most, one_more is))) refl
    by_event (Arrived conn request) is = of_opened c conn H (are_false (causes S (past S H) (Arrived conn request)) (rw is at may.has_no_cause)).0 before
    by_event (Finished conn) is = of_opened c conn H (are_false (causes S (past S H) (Finished conn)) (rw is at may.has_no_cause)).0 before
    by_event (Handed conn) is = of_opened c conn H (are_false (causes S (past S H) (Handed conn)) (rw is at may.has_no_cause)).0 before
    by_event (Closed conn) is = of_opened c conn H (are_false (causes S (past S H) (Closed conn)) (rw is at may.has_no_cause)).0 before
    by_event _ is = refl

pub unopened_have_no_steps : (S : Setting) (H : History) (c : ℕ) → IsLegal S H → openings H ≤ c
    → connection_steps c H ≡ []
unopened_have_no_steps S [] c legal most = refl
unopened_have_no_steps S (s ∷ before) c legal most =
    rw (of_none_later S before c s legal.1 most) (unopened_have_no_steps S before c legal.0 (omega (arith, most, times_grows is_opening s before)))

pub openings_come_first : (S : Setting) (before : History) (s : Step) (c : ℕ) → IsLegal S (s ∷ before)
    → s.event ≡ Opened → s.answer ≡ answer.Opened c
    → connection_steps c before ≡ []
openings_come_first S before s c legal e a =
    let is : answer.Opened c ≡ answer.Opened (openings before) =
    sym a ∙ legal.1.is_answered ∙ ap (answer_to S (past S before)) e in
    let number : c ≡ openings before = cc in
    unopened_have_no_steps S before c legal.0 (omega (arith, number))
