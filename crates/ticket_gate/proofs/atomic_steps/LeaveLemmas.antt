-- The pass inside puts the state back and serves the next ticket.
use Rattle.std.proofs.Common.{◌≡◌, ◌≢◌, ℕ, ◌+◌, true, List, [], ◌∷◌, ◌++◌, set, refl, sym, ap, ◌∙◌, subst, arith, le_refl, Option, Some}
use Rattle.std.specs.Option.{unwrap_or}
use mathlib.Core.Option as maybe
use mathlib.Core.Option.{none, some, some-injective}
use Rattle.atomic_table.specs.Table.{step, gives, rest as after_first, Allows}
use Rattle.journal_core.specs.declared.step.Step.{Step as StepOf}
use Rattle.ticket_gate.specs.declared.view.Knowledge.{Knowledge}
use Rattle.ticket_gate.specs.declared.view.View.{View}
use Rattle.ticket_gate.specs.Journal.{steps_of, PassesBelow, AreOf}
use Rattle.ticket_gate.specs.Rule.{Standing, Agrees, ViewAgrees, StateIsPlaced, GateRule, view_of}
use Rattle.ticket_gate.specs.Steps.{SeatState, ServesNext, after_exit}
use Rattle.ticket_gate.proofs.JournalLemmas.{append-nil, starts_itself, steps_of-append, steps_of-apart, passes_below-append, passes_below-of}
use Rattle.ticket_gate.proofs.SeatLemmas.{each_after, not_inside, not_none, same_number}
use Rattle.ticket_gate.proofs.OtherSeatLemmas.{Carries, view_agrees_on}
use Rattle.ticket_gate.proofs.atomic_steps.FrameLemmas.{Whole}

module _ {S E A C : Type 0} (journal : S → List (StepOf E A)) (setting : S → C) (legal : C → List (StepOf E A) → Type 0) (c : C) where
  abbrev Rule : Whole S E A C → Type 0
  Rule = GateRule journal setting legal c

  abbrev held_or : S → List (ℕ × Option S) → S
  held_or d [] = d
  held_or d (z ∷ zs) = unwrap_or z.1 d

  serves_next-own : (slots id n t new : ℕ) (k : Knowledge E A C) (x : S) (more : List (StepOf E A)) (held : List (ℕ × Option S)) → new ≡ t + 1 → k.ticket ≡ Some t → k.inside ≡ true → k.number ≡ Some n
      → journal x ≡ k.seen ++ more → legal c (journal x) → setting x ≡ c → AreOf n more
      → Allows Rule slots id (view_of k, (0, Some x) ∷ held) 1 (λ _. new) (λ _. ServesNext journal (step slots 1 new 0 none) (view_of k, (0, Some x) ∷ held) new)
  serves_next-own slots id n t new k x more held up has in_now numbered longer ok same all s r len at small =
      let g = r.standing in
      let f = (r.each_view id (view_of k) at).0 in
      let (is_served, in_seat, has_seen) = f.inside in_now in
      let now : t ≡ g.serving = same_number t g.serving (sym has ∙ is_served) in
      let number = f.number n numbered in
      let (_, drawn, holds) = f.ticket t has in
      let grown : journal x ≡ g.journal ++ more = longer ∙ ap (λ l. l ++ more) has_seen in
      let w : View E A C = view_of (after_exit k new (journal x)) in
      let out : s.homes ≡ none ∷ [] = (subst (StateIsPlaced journal setting g.journal c s.homes s.views) in_seat r.placed).1 in
      let h : Standing E A = record g { serving = new; journal = journal x; inside = none } in
      let carries : (j : ℕ) → j ≢ id → Carries g h j = λ j apart. record {
        drawn = le_refl g.drawn;
        serving = omega arith;
        enrolled = le_refl g.enrolled;
        ticket = λ m a b its. let other : m ≢ t = λ q. apart (sym its ∙ ap g.holder_of q ∙ holds) in (omega arith, its);
        inside = λ its. absurd (apart (some-injective j id (sym its ∙ in_seat)));
        number = λ m l its. let other : m ≢ n = λ q. apart (sym its ∙ ap g.owner_of q ∙ number.1) in
            (its, ap (steps_of m) grown ∙ steps_of-append m g.journal more ∙ ap (λ l. steps_of m g.journal ++ l) (steps_of-apart n m more all other) ∙ append-nil (steps_of m g.journal));
        more = (more, grown);
      } in
      let mine : Agrees h c id (after_exit k new (journal x)) = record {
        last_served = le_refl new;
        last_drawn = f.last_drawn;
        last_enrolled = f.last_enrolled;
        ticket = λ m is. absurd (not_none is);
        inside = λ is. absurd (not_inside is);
        number = λ m is. let its = f.number m is in (its.0, its.1, refl);
        spare = λ _. refl;
        seen = starts_itself (journal x);
        setting = f.setting;
      } in (
        w,
        gives,
        tt,
        record {
          standing = h;
          words = ap (λ (words : List ℕ). set words 1 new) r.words;
          behind = omega (arith, drawn);
          few = r.few;
          is_legal = ok;
          passes = subst (PassesBelow g.enrolled) (sym grown) (passes_below-append g.enrolled g.journal more r.passes (passes_below-of n g.enrolled more number.0 all));
          placed = (x, ap (λ (homes : List (maybe.Option (Option S))). set homes 0 (some (Some x))) out, refl, same);
          each_view = each_after (ViewAgrees h c) s.views id w (mine, tt) (λ j v apart there. view_agrees_on g h c j (carries j apart) v (r.each_view j v there));
        },
        λ y others is. let first : x ≡ y = ap (held_or x) is in let behind : held ≡ others = ap after_first is in λ j. (view_of (after_exit k new (journal (first j))), behind j),
      )

  -- The state that is put back may have more steps of the pass, if it is legal with them.
  pub serves_next : (slots id n t new : ℕ) (me : SeatState S E A C) (k : Knowledge E A C) (x : S) (more : List (StepOf E A)) → me ≡ (view_of k, (0, Some x) ∷ []) → new ≡ t + 1 → k.ticket ≡ Some t → k.inside ≡ true → k.number ≡ Some n
      → journal x ≡ k.seen ++ more → legal c (journal x) → setting x ≡ c → AreOf n more
      → Allows Rule slots id me 1 (λ _. new) (λ _. ServesNext journal (step slots 1 new 0 none) me new)
  serves_next slots id n t new me k x more is up has in_now numbered longer ok same all = subst (λ (m : SeatState S E A C). Allows Rule slots id m 1 (λ _. new) (λ _. ServesNext journal (step slots 1 new 0 none) m new)) (sym is)
      (serves_next-own slots id n t new k x more [] up has in_now numbered longer ok same all)
