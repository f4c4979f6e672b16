-- A turn of the state, seen from the place that makes it, and what that place knows inside and outside.
use Rattle.std.proofs.Common.{◌≡◌, ℕ, ◌+◌, ◌<◌, ◌^◌, append_assoc, List, [], ◌∷◌, ◌++◌, refl, sym, ap, ◌∙◌, subst, Option, Some, None, Result, Ok, Err}
use Rattle.std.specs.Prelude.{MatchResult, IfOk, IfErr}
use Rattle.std.specs.Option.{unwrap_or}
use Rattle.atomic_table.specs.Table.{rest}
use Rattle.atomic_table.specs.declared.shared.Seat.{Seat}
use Rattle.journal_core.specs.declared.step.Step.{Step as StepOf}
use Rattle.journal_core.specs.Journal.{step_by}
use Rattle.ticket_gate.specs.declared.view.Knowledge.{Knowledge}
use Rattle.ticket_gate.specs.declared.view.View.{View}
use Rattle.ticket_gate.specs.Rule.{view_of}
use Rattle.ticket_gate.specs.Steps.{SeatState, with_own, after_exit}
use Rattle.ticket_gate.specs.Gate.{IsAtRest}
use Rattle.ticket_gate.specs.Visit.{KeepsSeen, HasMadeTurn, HasTurned, IsHolding, IsInside, journal_out}
use Rattle.ticket_gate.specs.Gate.{GateFacts}
use Rattle.ticket_gate.specs.Journal.{AddsTurn, AreOf, GrowsByOthers}
use Rattle.ticket_gate.specs.Turns.{RefusesTurn}
use Rattle.ticket_gate.specs.declared.refusal.TurnRefusal.{TurnRefusal}
use Rattle.ticket_gate.specs.declared.refusal.TurnRefusal.TheVariants.{State}
use Rattle.ticket_gate.specs.Hold.{IsSeated}
use Rattle.ticket_gate.proofs.JournalLemmas.{append-nil, are_of-append, adds_turn-behind}

module _ {S : Type 0} where
  abbrev first_or : Option S → List (ℕ × Option S) → Option S
  first_or d [] = d
  first_or d (z ∷ zs) = z.1

  -- the state that is taken out of the slot
  pub taken : (held : List (ℕ × Option S)) (x y : S) (found : Option S) → held ≡ (0, Some x) ∷ [] → held ≡ (0, found) ∷ rest held → found ≡ Some y → y ≡ x
  taken held x y found is was out = ap (λ o. unwrap_or o y) (sym out ∙ ap (first_or found) (sym was ∙ is))

  -- and put back
  pub put_back : {E A C : Type 0} (me me' me'' : SeatState S E A C) (k : Knowledge E A C) (x y : S) → me ≡ (view_of k, (0, Some x) ∷ []) → me' ≡ (me.0, (0, None) ∷ rest me.1) → me'' ≡ (me'.0, (0, Some y) ∷ rest me'.1)
      → me'' ≡ (view_of k, (0, Some y) ∷ [])
  put_back me me' me'' k x y is out back = back ∙ (λ i. ((out i).0, (0, Some y) ∷ rest (out i).1)) ∙ (λ i. ((is i).0, (0, Some y) ∷ rest (is i).1))

-- a turn of the pass n took the state x to the state y
module _ {S E A C R : Type 0} (journal : S → List (StepOf E A)) (setting : S → C) (legal : C → List (StepOf E A) → Type 0) (cause : C → R → E → List (StepOf E A) → Type 0) (x y : S) (n : ℕ) (event : E) where
  abbrev Answered : Result A (R × E) → Type 0
  Answered outcome = IfOk outcome (λ answer. journal y ≡ journal x ++ step_by n event answer ∷ [])

  abbrev StaysLegal : Result A (R × E) → Type 0
  StaysLegal outcome = IfOk outcome (λ answer. legal (setting x) (journal x) → legal (setting x) (journal y))

  abbrev Refused : Result A (R × E) → Type 0
  Refused outcome = IfErr outcome (λ refused. (journal y ≡ journal x) × (refused.1 ≡ event) × cause (setting x) refused.0 event (journal x))

  -- what the turn adds to the journal
  adds : (outcome : Result A (R × E)) → Answered outcome → StaysLegal outcome → Refused outcome → legal (setting x) (journal x)
      → (more : List (StepOf E A)) × (journal y ≡ journal x ++ more) × legal (setting x) (journal y) × AreOf n more
  adds (Ok answer) grown keeps refused ok = (step_by n event answer ∷ [], grown, keeps ok, (refl, tt))
  adds (Err why) grown keeps refused ok = ([], refused.0 ∙ sym (append-nil (journal x)), subst (legal (setting x)) (sym refused.0) ok, tt)

  -- the place that made it stays inside
  pub stays_inside : (c : C) (t : ℕ) (old new : Seat (Option S) (View E A C)) (outcome : Result A (R × E)) → (i : IsHolding journal setting legal c n t old) → x ≡ i.state → new.me ≡ (view_of old.me.0.own, (0, Some y) ∷ [])
      → Answered outcome → StaysLegal outcome → Refused outcome → setting y ≡ setting x → IsHolding journal setting legal c n t new
  stays_inside c t old new outcome i same now grown keeps refused kept =
      let k : Knowledge E A C = old.me.0.own in
      let is : setting x ≡ c = ap setting same ∙ i.has_setting in
      let ok : legal (setting x) (journal x) = subst (λ (z : C × List (StepOf E A)). legal z.0 z.1) (λ j. (sym is j, ap journal (sym same) j)) i.is_legal in
      let (more, longer, stays, all) = adds outcome grown keeps refused ok in
      let own : new.me.0.own ≡ k = ap (λ (z : SeatState S E A C). z.0.own) now in record {
        state = y;
        me = now ∙ ap (λ (u : Knowledge E A C). (view_of u, (0, Some y) ∷ [])) (sym own);
        ticket = ap (λ (u : Knowledge E A C). u.ticket) own ∙ i.ticket;
        inside = ap (λ (u : Knowledge E A C). u.inside) own ∙ i.inside;
        number = ap (λ (u : Knowledge E A C). u.number) own ∙ i.number;
        low = i.low;
        has_setting = kept ∙ is;
        is_legal = subst (λ d. legal d (journal y)) is stays;
        more = i.more ++ more;
        grown = longer ∙ ap (λ l. l ++ more) (ap journal same ∙ i.grown) ∙ append_assoc k.seen i.more more ∙ ap (λ (u : Knowledge E A C). u.seen ++ (i.more ++ more)) (sym own);
        own = are_of-append n i.more more i.own all;
      }

  -- and sees what it did
  pub has_turned : (c : C) (before after : List (StepOf E A)) (outcome : Result A (R × E)) → before ≡ journal x → after ≡ journal y → setting x ≡ c → Answered outcome → Refused outcome → HasTurned cause before after c n event outcome
  has_turned c before after (Ok answer) was now is grown refused = now ∙ grown ∙ ap (λ l. l ++ step_by n event answer ∷ []) (sym was)
  has_turned c before after (Err why) was now is grown (stays, same_event, caused) = (
    now ∙ stays ∙ sym was,
    same_event,
    subst (λ (z : C × List (StepOf E A)). cause z.0 why.0 event z.1) (λ j. (is j, sym was j)) caused,
  )

module _ {S E A C : Type 0} (journal : S → List (StepOf E A)) (setting : S → C) (legal : C → List (StepOf E A) → Type 0) where
  -- a place that has just come in holds the gate, and has made no step yet
  pub holds_at_first : (c : C) (n t : ℕ) (before : Knowledge E A C) (seat : Seat (Option S) (View E A C)) → IsInside journal setting legal before t seat → t + 1 < 2 ^ 64 → before.setting ≡ Some c → before.number ≡ Some n → IsHolding journal setting legal c n t seat
  holds_at_first c n t before seat i low has numbered = record {
    state = i.state;
    me = i.me;
    ticket = i.ticket;
    inside = i.inside;
    number = i.number ∙ numbered;
    low = low;
    has_setting = i.goes_on.has_setting c has;
    is_legal = i.goes_on.is_legal c has;
    more = [];
    grown = sym i.seen ∙ sym (append-nil seat.me.0.own.seen);
    own = tt;
  }

  -- so does a place that put the state back as it was
  pub holds_again : (c : C) (n t : ℕ) (old new : Seat (Option S) (View E A C)) → IsHolding journal setting legal c n t old → new.me ≡ old.me → IsHolding journal setting legal c n t new
  holds_again c n t old new i same =
      let own : new.me.0.own ≡ old.me.0.own = ap (λ (z : SeatState S E A C). z.0.own) same in record {
        state = i.state;
        me = same ∙ i.me ∙ ap (λ (u : Knowledge E A C). (view_of u, (0, Some i.state) ∷ [])) (sym own);
        ticket = ap (λ (u : Knowledge E A C). u.ticket) own ∙ i.ticket;
        inside = ap (λ (u : Knowledge E A C). u.inside) own ∙ i.inside;
        number = ap (λ (u : Knowledge E A C). u.number) own ∙ i.number;
        low = i.low;
        has_setting = i.has_setting;
        is_legal = i.is_legal;
        more = i.more;
        grown = i.grown ∙ ap (λ (u : Knowledge E A C). u.seen ++ i.more) (sym own);
        own = i.own;
      }

  -- a pass that made a turn inside is seated inside still
  pub seated_again : (gate : GateFacts C) (n t : ℕ) (old new : Seat (Option S) (View E A C)) → IsSeated journal setting legal gate n (Some t) old → new.table_id ≡ old.table_id → new.me.0 ≡ old.me.0
      → IsHolding journal setting legal gate.setting n t new → IsSeated journal setting legal gate n (Some t) new
  seated_again gate n t old new seated same view i = record {
    gate_is = same ∙ seated.gate_is;
    setting_is = ap (λ (v : View E A C). v.own.setting) view ∙ seated.setting_is;
    number_is = ap (λ (v : View E A C). v.own.number) view ∙ seated.number_is;
    stands = i;
  }

  -- the journal that is out with it is that of its state
  pub journal_of_state : (c : C) (n t : ℕ) (seat : Seat (Option S) (View E A C)) → (i : IsHolding journal setting legal c n t seat) → journal_out journal seat.me.1 ≡ journal i.state
  journal_of_state c n t seat i = ap (λ (z : SeatState S E A C). journal_out journal z.1) i.me

  -- the journal that a place found inside goes on from what it had seen
  pub grows_inside : (n t : ℕ) (before : Knowledge E A C) (seat : Seat (Option S) (View E A C)) → (i : IsInside journal setting legal before t seat) → before.number ≡ Some n → GrowsByOthers n before.seen (journal_out journal seat.me.1)
  grows_inside n t before seat i numbered =
      let is : journal_out journal seat.me.1 ≡ journal i.state = ap (λ (z : SeatState S E A C). journal_out journal z.1) i.me in
      subst (GrowsByOthers n before.seen) (sym is) (record { begins = i.goes_on.begins; own = i.goes_on.own n numbered })

  -- a place that stored the next ticket is outside
  pub left_with : (c : C) (n t : ℕ) (old new : Seat (Option S) (View E A C)) → (i : IsHolding journal setting legal c n t old)
      → ((z : S) (after : List (ℕ × Option S)) → old.me.1 ≡ (0, Some z) ∷ after → new.me ≡ (with_own old.me.0 (after_exit old.me.0.own (t + 1) (journal z)), after))
      → new.me ≡ (view_of (after_exit old.me.0.own (t + 1) (journal_out journal old.me.1)), [])
  left_with c n t old new i told =
      let view : old.me.0 ≡ view_of old.me.0.own = ap (λ (z : SeatState S E A C). z.0) i.me in
      told i.state [] (ap (λ (z : SeatState S E A C). z.1) i.me) ∙ (λ j. (with_own (view j) (after_exit old.me.0.own (t + 1) (sym (journal_of_state c n t old i) j)), []))

module _ {S E A C : Type 0} where
  -- a place that has left is at rest
  pub is_outside : (k : Knowledge E A C) (m : ℕ) (seen : List (StepOf E A)) (seat : Seat (Option S) (View E A C)) → seat.me ≡ (view_of (after_exit k m seen), []) → IsAtRest seat
  is_outside k m seen seat is =
      let own : seat.me.0.own ≡ after_exit k m seen = ap (λ (z : SeatState S E A C). z.0.own) is in record {
        alone = is ∙ ap (λ (u : Knowledge E A C). (view_of u, [])) (sym own);
        no_ticket = ap (λ (u : Knowledge E A C). u.ticket) own;
        outside = ap (λ (u : Knowledge E A C). u.inside) own;
      }

  -- it knows what it knew, and has seen what was done inside
  pub keeps_outside : (k : Knowledge E A C) (m : ℕ) (seen : List (StepOf E A)) (seat : Seat (Option S) (View E A C)) → seat.me ≡ (view_of (after_exit k m seen), []) → k.seen ≡ seen → KeepsSeen k seat.me.0.own
  keeps_outside k m seen seat is same =
      let own : seat.me.0.own ≡ after_exit k m seen = ap (λ (z : SeatState S E A C). z.0.own) is in
      record { number = ap (λ (u : Knowledge E A C). u.number) own; seen = ap (λ (u : Knowledge E A C). u.seen) own ∙ sym same; setting = ap (λ (u : Knowledge E A C). u.setting) own }

-- a turn between coming in and leaving
module _ {E A C R : Type 0} (legal : C → List (StepOf E A) → Type 0) (cause : C → R → E → List (StepOf E A) → Type 0) where
  turn_seen : (c : C) (k : Knowledge E A C) (n : ℕ) (event : E) (outcome : Result A (R × E)) (before after seen : List (StepOf E A)) → k.seen ≡ before → seen ≡ after → k.setting ≡ Some c → legal c after → HasTurned cause before after c n event outcome
      → MatchResult outcome (λ answer. (seen ≡ k.seen ++ step_by n event answer ∷ []) × ((d : C) → k.setting ≡ Some d → legal d seen)) (λ refused. (seen ≡ k.seen) × (refused.1 ≡ event) × ((d : C) → k.setting ≡ Some d → cause d refused.0 event seen))
  turn_seen c k n event (Ok answer) before after seen was now has ok turned = (
    now ∙ turned ∙ ap (λ l. l ++ step_by n event answer ∷ []) (sym was),
    λ d is. let same : c ≡ d = cc in subst (λ (z : C × List (StepOf E A)). legal z.0 z.1) (λ j. (same j, sym now j)) ok,
  )
  turn_seen c k n event (Err why) before after seen was now has ok (stays, same_event, caused) = (
    now ∙ stays ∙ sym was,
    same_event,
    λ d is. let same : c ≡ d = cc in subst (λ (z : C × List (StepOf E A)). cause z.0 why.0 event z.1) (λ j. (same j, (sym stays ∙ sym now) j)) caused,
  )

  pub has_made_turn : {S : Type 0} (c : C) (k : Knowledge E A C) (n m : ℕ) (event : E) (outcome : Result A (R × E)) (before after : List (StepOf E A)) (seat : Seat (Option S) (View E A C)) → seat.me ≡ (view_of (after_exit k m after), []) → k.seen ≡ before → k.setting ≡ Some c → legal c after
      → HasTurned cause before after c n event outcome → HasMadeTurn legal cause k n event outcome seat
  has_made_turn {S} c k n m event outcome before after seat is was has ok turned =
      let own : seat.me.0.own ≡ after_exit k m after = ap (λ (z : SeatState S E A C). z.0.own) is in record {
        at_rest = is_outside k m after seat is;
        number = ap (λ (u : Knowledge E A C). u.number) own;
        has_setting = ap (λ (u : Knowledge E A C). u.setting) own;
        done = turn_seen c k n event outcome before after seat.me.0.own.seen was (ap (λ (u : Knowledge E A C). u.seen) own) has ok turned;
      }

-- a turn at a gate, behind what others added
module _ {E A C R : Type 0} (legal : C → List (StepOf E A) → Type 0) (cause : C → R → E → List (StepOf E A) → Type 0) where
  pub turn_told : (c : C) (spent : Type 0) (n : ℕ) (event : E) (outcome : Result A (R × E)) (result : Result A (TurnRefusal R E)) (before middle after seen : List (StepOf E A)) → MatchResult outcome (λ answer. result ≡ Ok answer) (λ refused. result ≡ Err (State refused.0 refused.1))
      → GrowsByOthers n before middle → HasTurned cause middle after c n event outcome → legal c after → seen ≡ after → IfOk result (λ answer. AddsTurn (legal c) n before event answer seen) × IfErr result (RefusesTurn (cause c) spent n before event seen)
  turn_told c spent n event (Ok answer) result before middle after seen told grows turned ok is = subst (λ r. IfOk r (λ a. AddsTurn (legal c) n before event a seen) × IfErr r (RefusesTurn (cause c) spent n before event seen)) (sym told)
      (adds_turn-behind (legal c) n before middle seen event answer grows (is ∙ turned) (subst (legal c) (sym is) ok), tt)
  turn_told c spent n event (Err why) result before middle after seen told grows (stays, same_event, caused) ok is = subst (λ r. IfOk r (λ a. AddsTurn (legal c) n before event a seen) × IfErr r (RefusesTurn (cause c) spent n before event seen)) (sym told)
      (tt, (same_event, (subst (GrowsByOthers n before) (sym (is ∙ stays)) grows, subst (cause c why.0 event) (sym (is ∙ stays)) caused)))
