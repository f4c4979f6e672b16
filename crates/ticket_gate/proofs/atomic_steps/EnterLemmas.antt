-- A pass goes inside: where its ticket is served, or at once where nobody holds or awaits the gate.
use Rattle.std.proofs.Common.{◌≡◌, ℕ, ◌+◌, ◌<◌, ◌≤◌, eqb, true, false, List, [], ◌∷◌, set, refl, sym, ap, ◌∙◌, subst, arith, le_refl, Option, Some}
use mathlib.Core.Option as maybe
use mathlib.Core.Option.{none, some, some-ne-none}
use mathlib.Core.Logic.{dite}
use native.Mathlib.Decide.{ℕ_discrete}
use lib.ListN.{get_elem?}
use prog.Atomic.{either}
use Rattle.atomic_table.specs.Table.{step, keeps, takes, stepped, Allows}
use Rattle.atomic_table.proofs.Lists.{set_here}
use Rattle.journal_core.specs.declared.step.Step.{Step as StepOf}
use Rattle.ticket_gate.specs.declared.view.Knowledge.{Knowledge}
use Rattle.ticket_gate.specs.declared.view.View.{View}
use Rattle.ticket_gate.specs.Journal.{steps_of, StartsWith}
use Rattle.ticket_gate.specs.Rule.{Standing, Agrees, ViewAgrees, GateRule, view_of}
use Rattle.ticket_gate.specs.Steps.{SeatState, LooksAtServing, EntersAtOnce, GoesOnFrom, after_look, after_entry}
use Rattle.ticket_gate.proofs.JournalLemmas.{append-nil, starts_itself}
use Rattle.ticket_gate.proofs.SeatLemmas.{within, each_after, not_inside, not_none, same_number, given, given-here, given-else}
use Rattle.ticket_gate.proofs.OtherSeatLemmas.{Carries, view_agrees_on}
use Rattle.ticket_gate.proofs.StatePlaceLemmas.{IsHome, home_if, inside_ticket}
use Rattle.ticket_gate.proofs.atomic_steps.FrameLemmas.{Whole, drawn_at, serving_at, stays, goes_at, goes_if}
use Rattle.ticket_gate.proofs.atomic_steps.ReadLemmas.{drawn_is_read, serving_is_read}

module _ {S E A C : Type 0} (journal : S → List (StepOf E A)) (setting : S → C) (legal : C → List (StepOf E A) → Type 0) (c : C) where
  abbrev Rule : Whole S E A C → Type 0
  Rule = GateRule journal setting legal c

  abbrev AtHome : (s : Whole S E A C) → Rule s → Type 0
  AtHome s r = IsHome journal setting r.standing.journal c s.homes

  -- the state at home goes on from what a place has seen
  goes_on : (s : Whole S E A C) (r : Rule s) (id : ℕ) (k : Knowledge E A C) (x : S) → Agrees r.standing c id k → journal x ≡ r.standing.journal → setting x ≡ c → GoesOnFrom journal setting legal k x
  goes_on s r id k x f same is = record {
    has_setting = λ d h. is ∙ sym (f.setting d h);
    is_legal = λ d h. subst (λ (z : C × List (StepOf E A)). legal z.0 z.1) (λ i. (sym (f.setting d h) i, sym same i)) r.is_legal;
    begins = subst (λ l. StartsWith l k.seen) (sym same) f.seen;
    own = λ n h. let (_, _, own_steps) = f.number n h in ap (steps_of n) same ∙ own_steps;
  }

  -- `drawn` may rise to d, and the place goes inside with the ticket that is served
  goes_inside : (s : Whole S E A C) (r : Rule s) (i id d m : ℕ) (holder_of : ℕ → ℕ) (k l : Knowledge E A C) (held : List (ℕ × Option S)) → get_elem? s.views id ≡ some (view_of k)
      → set s.words i m ≡ d ∷ r.standing.serving ∷ r.standing.enrolled ∷ [] → r.standing.drawn ≤ d
      → ((j t : ℕ) → t < r.standing.drawn → r.standing.holder_of t ≡ j → holder_of t ≡ j)
      → (r.standing.inside ≡ none) → (home : AtHome s r)
      → Agrees (record r.standing { drawn = d; inside = some id; holder_of = holder_of }) c id l → l.inside ≡ true
      → Rule (stepped s i m id held (view_of l) (takes 0 (Some home.state)))
  goes_inside s r i id d m holder_of k l held at is more same nobody home mine in_now =
      let g = r.standing in
      let h : Standing E A = record g { drawn = d; inside = some id; holder_of = holder_of } in
      let carries : (j : ℕ) → Carries g h j = λ j. record {
        drawn = more;
        serving = le_refl g.serving;
        enrolled = le_refl g.enrolled;
        ticket = λ t a b its. (a, same j t b its);
        inside = λ its. absurd (some-ne-none j (sym its ∙ nobody));
        number = λ n l its. (its, refl);
        more = ([], sym (append-nil g.journal));
      } in record {
        standing = h;
        words = is;
        behind = let b = r.behind in omega arith;
        few = r.few;
        is_legal = r.is_legal;
        passes = r.passes;
        placed = (view_of l, ap (λ (homes : List (maybe.Option (Option S))). set homes 0 none) home.at_home, set_here s.views id (view_of l) (within s.views id (view_of k) at), in_now);
        each_view = each_after (ViewAgrees h c) s.views id (view_of l) (mine, tt) (λ j v _ there. view_agrees_on g h c j (carries j) v (r.each_view j v there));
      }

  -- a look that finds the place's own ticket
  looks-served : (slots id t : ℕ) (k : Knowledge E A C) (held : List (ℕ × Option S)) → k.ticket ≡ Some t → k.inside ≡ false
      → Allows Rule slots id (view_of k, held) 1 (λ n. n) (LooksAtServing journal setting legal (step slots 1 0 0 none) (view_of k, held))
  looks-served slots id t k held has outside s r len at small =
      let then = LooksAtServing journal setting legal (step slots 1 0 0 none) (view_of k, held) in
      let g = r.standing in
      let f = (r.each_view id (view_of k) at).0 in
      let l : Knowledge E A C = after_look k g.serving in
      let found = serving_at journal setting legal c s r in
      goes_at journal setting legal c s id 1 held then (λ n. n) g.serving found (dite (ℕ_discrete t g.serving)
      (λ mine.
      let nobody : (j : ℕ) → g.inside ≡ some j → ⊥ = λ j is. let (_, holds, in_now) = inside_ticket journal setting legal c s r j is in
      let (_, _, holds') = f.ticket t has in
      let me : j ≡ id = sym holds ∙ ap g.holder_of (sym mine) ∙ holds' in
      not_inside (sym outside ∙ in_now (view_of k) (ap (get_elem? s.views) me ∙ at)) in
      let (none_inside, home) = home_if journal setting g.journal c s.homes s.views g.inside nobody r.placed in
      let x = home.state in
      let u : Knowledge E A C = record l { inside = true; seen = journal x } in (
        view_of u,
        takes 0 (Some x),
        ap (λ (homes : List (maybe.Option (Option S))). get_elem? homes 0) home.at_home,
        goes_inside s r 1 id g.drawn g.serving g.holder_of k u held at (ap (λ (words : List ℕ). set words 1 g.serving) r.words) (le_refl g.drawn) (λ j n _ its. its) none_inside home (record {
          last_served = le_refl g.serving;
          last_drawn = f.last_drawn;
          last_enrolled = f.last_enrolled;
          ticket = f.ticket;
          inside = λ _. (has ∙ ap Some mine, refl, home.has_journal);
          number = λ n is. let its = f.number n is in (its.0, its.1, ap (steps_of n) (sym home.has_journal));
          spare = f.spare;
          seen = subst (λ l. StartsWith g.journal l) (sym home.has_journal) (starts_itself g.journal);
          setting = f.setting;
        }) refl,
        ((λ _. (x, refl, goes_on s r id k x f home.has_journal home.has_setting)), λ apart. absurd (apart (has ∙ ap Some mine))),
      ))
      (λ other. (view_of l, keeps, tt, stays journal setting legal c s r 1 id g.serving (view_of k) (view_of l) held found at (λ i. i) (serving_is_read g c id k f, tt), ((λ is. absurd (other (same_number t g.serving (sym has ∙ is)))), λ _. refl))))

  -- the exchange finds no ticket between the one that is served and the next to be drawn
  enters_free : (slots id old new n : ℕ) (k : Knowledge E A C) (held : List (ℕ × Option S)) → new ≡ old + 1 → k.last_served ≡ old → k.number ≡ Some n → k.inside ≡ false
      → Allows Rule slots id (view_of k, held) 0 (λ n. either (eqb n old) new n) (EntersAtOnce journal setting legal (step slots 0 old new none) (view_of k, held))
  enters_free slots id old new n k held up looked_at numbered outside s r len at small =
      let then = EntersAtOnce journal setting legal (step slots 0 old new none) (view_of k, held) in
      let g = r.standing in
      let f = (r.each_view id (view_of k) at).0 in
      let low : old ≤ g.serving = let a = f.last_served in omega arith in
      let behind = r.behind in
      let found = drawn_at journal setting legal c s r in
      goes_at journal setting legal c s id 0 held then (λ n. either (eqb n old) new n) g.drawn found (goes_if journal setting legal c s id 0 held then g.drawn old new
      (λ is.
      let nobody : (j : ℕ) → g.inside ≡ some j → ⊥ = λ j its. let l = (inside_ticket journal setting legal c s r j its).0 in omega arith in
      let (none_inside, home) = home_if journal setting g.journal c s.homes s.views g.inside nobody r.placed in
      let x = home.state in
      let u : Knowledge E A C = after_entry k old (journal x) in
      let holder_of : ℕ → ℕ = given old id g.holder_of in
      let now : old ≡ g.serving = omega arith in (
        view_of u,
        takes 0 (Some x),
        ap (λ (homes : List (maybe.Option (Option S))). get_elem? homes 0) home.at_home,
        goes_inside s r 0 id new new holder_of k u held at (ap (λ (words : List ℕ). set words 0 new) r.words) (omega arith) (λ j t l its. given-else old id t g.holder_of (λ q. omega arith) ∙ its) none_inside home (record {
          last_served = f.last_served;
          last_drawn = let a = f.last_drawn in omega arith;
          last_enrolled = f.last_enrolled;
          ticket = λ t is'. let q : old ≡ t = same_number old t is' in (omega arith, omega arith, ap holder_of (sym q) ∙ given-here old id g.holder_of);
          inside = λ _. (ap Some now, refl, home.has_journal);
          number = λ m is'. let its = f.number m is' in (its.0, its.1, ap (steps_of m) (sym home.has_journal));
          spare = λ is'. absurd (not_none (sym is' ∙ numbered));
          seen = subst (λ l. StartsWith g.journal l) (sym home.has_journal) (starts_itself g.journal);
          setting = f.setting;
        }) refl,
        ((λ _. (x, refl, goes_on s r id k x f home.has_journal home.has_setting)), λ apart. absurd (apart is)),
      ))
      (λ apart. let w : View E A C = view_of (record k { last_drawn = g.drawn }) in
      (w, keeps, tt, stays journal setting legal c s r 0 id g.drawn (view_of k) w held found at (λ i. i) (drawn_is_read g c id k f, tt), ((λ is. absurd (apart is)), λ _. (omega arith, refl)))))

  pub looks_with_ticket : (slots id t : ℕ) (me : SeatState S E A C) → me ≡ (view_of me.0.own, []) → me.0.own.ticket ≡ Some t → me.0.own.inside ≡ false
      → Allows Rule slots id me 1 (λ n. n) (LooksAtServing journal setting legal (step slots 1 0 0 none) me)
  looks_with_ticket slots id t me is has outside = subst (λ (m : SeatState S E A C). Allows Rule slots id m 1 (λ n. n) (LooksAtServing journal setting legal (step slots 1 0 0 none) m)) (sym is)
      (looks-served slots id t me.0.own [] has outside)

  pub enters_at_once : (slots id old new n : ℕ) (me : SeatState S E A C) → me ≡ (view_of me.0.own, []) → new ≡ old + 1 → me.0.own.last_served ≡ old → me.0.own.number ≡ Some n → me.0.own.inside ≡ false
      → Allows Rule slots id me 0 (λ n. either (eqb n old) new n) (EntersAtOnce journal setting legal (step slots 0 old new none) me)
  enters_at_once slots id old new n me is up looked_at numbered outside = subst (λ (m : SeatState S E A C). Allows Rule slots id m 0 (λ n. either (eqb n old) new n) (EntersAtOnce journal setting legal (step slots 0 old new none) m)) (sym is)
      (enters_free slots id old new n me.0.own [] up looked_at numbered outside)
