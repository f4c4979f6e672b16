-- A pass draws the next ticket.
use Rattle.std.proofs.Common.{◌≡◌, ℕ, ◌+◌, ◌≤◌, eqb, false, List, [], set, refl, sym, ap, ◌∙◌, subst, arith, le_refl, Option, Some}
use mathlib.Core.Option.{none, some}
use lib.ListN.{get_elem?}
use prog.Atomic.{either}
use Rattle.atomic_table.specs.Table.{step, keeps, stepped, Allows}
use Rattle.journal_core.specs.declared.step.Step.{Step as StepOf}
use Rattle.ticket_gate.specs.declared.view.Knowledge.{Knowledge}
use Rattle.ticket_gate.specs.Rule.{Standing, Agrees, ViewAgrees, GateRule, view_of}
use Rattle.ticket_gate.specs.Steps.{SeatState, DrawsTicket}
use Rattle.ticket_gate.proofs.JournalLemmas.{append-nil}
use Rattle.ticket_gate.proofs.SeatLemmas.{each_after, not_inside, not_none, same_number, given, given-here, given-else}
use Rattle.ticket_gate.proofs.OtherSeatLemmas.{Carries, view_agrees_on}
use Rattle.ticket_gate.proofs.StatePlaceLemmas.{placed-set}
use Rattle.ticket_gate.proofs.atomic_steps.FrameLemmas.{Whole, drawn_at, stays, goes_at, goes_if}

module _ {S E A C : Type 0} (journal : S → List (StepOf E A)) (setting : S → C) (legal : C → List (StepOf E A) → Type 0) (c : C) where
  abbrev Rule : Whole S E A C → Type 0
  Rule = GateRule journal setting legal c

  abbrev with_ticket : Knowledge E A C → ℕ → Knowledge E A C
  with_ticket k t = record k { ticket = Some t }

  -- the exchange finds the ticket that the place expects
  gives_ticket : (s : Whole S E A C) (r : Rule s) (id old new n : ℕ) (k : Knowledge E A C) (held : List (ℕ × Option S)) → r.standing.drawn ≡ old → new ≡ old + 1 → k.number ≡ Some n → k.inside ≡ false
      → get_elem? s.views id ≡ some (view_of k) → Rule (stepped s 0 new id held (view_of (with_ticket k old)) keeps)
  gives_ticket s r id old new n k held is up numbered outside at =
      let g = r.standing in
      let f = (r.each_view id (view_of k) at).0 in
      let behind = r.behind in
      let h : Standing E A = record g { drawn = new; holder_of = given old id g.holder_of } in
      let more : g.drawn ≤ new = omega arith in
      let carries : (j : ℕ) → Carries g h j = λ j. record {
        drawn = more;
        serving = le_refl g.serving;
        enrolled = le_refl g.enrolled;
        ticket = λ t a b its. (a, given-else old id t g.holder_of (λ q. omega arith) ∙ its);
        inside = λ its. (refl, its, refl);
        number = λ m l its. (its, refl);
        more = ([], sym (append-nil g.journal));
      } in
      let mine : Agrees h c id (with_ticket k old) = record {
        last_served = f.last_served;
        last_drawn = let a = f.last_drawn in omega arith;
        last_enrolled = f.last_enrolled;
        ticket = λ t is'. let q : old ≡ t = same_number old t is' in (omega arith, omega arith, ap h.holder_of (sym q) ∙ given-here old id g.holder_of);
        inside = λ i. absurd (not_inside (sym outside ∙ i));
        number = f.number;
        spare = λ is'. absurd (not_none (sym is' ∙ numbered));
        seen = f.seen;
        setting = f.setting;
      } in record {
        standing = h;
        words = ap (λ (words : List ℕ). set words 0 new) r.words;
        behind = omega arith;
        few = r.few;
        is_legal = r.is_legal;
        passes = r.passes;
        placed = placed-set journal setting g.journal c s.homes s.views id (view_of k) (view_of (with_ticket k old)) g.inside at (λ i. i) r.placed;
        each_view = each_after (ViewAgrees h c) s.views id (view_of (with_ticket k old)) (mine, tt) (λ j v _ there. view_agrees_on g h c j (carries j) v (r.each_view j v there));
      }

  draws_ticket-own : (slots id old new n : ℕ) (k : Knowledge E A C) (held : List (ℕ × Option S)) → new ≡ old + 1 → k.number ≡ Some n → k.inside ≡ false
      → Allows Rule slots id (view_of k, held) 0 (λ n. either (eqb n old) new n) (DrawsTicket (step slots 0 old new none) (view_of k, held))
  draws_ticket-own slots id old new n k held up numbered outside s r len at small =
      let then = DrawsTicket (step slots 0 old new none) (view_of k, held) in
      let m = r.standing.drawn in
      let found = drawn_at journal setting legal c s r in
      goes_at journal setting legal c s id 0 held then (λ n. either (eqb n old) new n) m found (goes_if journal setting legal c s id 0 held then m old new
      (λ is. (view_of (with_ticket k old), keeps, tt, gives_ticket s r id old new n k held is up numbered outside at, ((λ _. refl), λ apart. absurd (apart is))))
      (λ apart. (view_of k, keeps, tt, stays journal setting legal c s r 0 id m (view_of k) (view_of k) held found at (λ i. i) (r.each_view id (view_of k) at), ((λ is. absurd (apart is)), λ _. refl))))

  pub draws_ticket : (slots id old new n : ℕ) (me : SeatState S E A C) → me ≡ (view_of me.0.own, []) → new ≡ old + 1 → me.0.own.number ≡ Some n → me.0.own.inside ≡ false
      → Allows Rule slots id me 0 (λ n. either (eqb n old) new n) (DrawsTicket (step slots 0 old new none) me)
  draws_ticket slots id old new n me is up numbered outside = subst (λ (m : SeatState S E A C). Allows Rule slots id m 0 (λ n. either (eqb n old) new n) (DrawsTicket (step slots 0 old new none) m)) (sym is)
      (draws_ticket-own slots id old new n me.0.own [] up numbered outside)
