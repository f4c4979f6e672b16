-- The first moment of a gate and its last.
use Rattle.std.proofs.Common.{◌≡◌, ℕ, zero, suc, List, [], ◌∷◌, refl, sym, ap, ◌∙◌, subst, arith, le_refl, Option, Some}
use Rattle.std.specs.Option.{unwrap_or}
use mathlib.Core.Option as maybe
use mathlib.Core.Option.{none, some, some-injective, some-ne-none}
use lib.ListN.{get_elem?}
use Rattle.atomic_table.specs.Table.{opening, Final, Seen}
use Rattle.journal_core.specs.declared.step.Step.{Step as StepOf}
use Rattle.ticket_gate.specs.declared.view.View.{View}
use Rattle.ticket_gate.specs.Journal.{steps_of, StartsWith, Closes}
use Rattle.ticket_gate.specs.Rule.{Standing, ViewAgrees, GateRule, first_view}
use Rattle.ticket_gate.proofs.SeatLemmas.{not_inside, not_none}
use Rattle.ticket_gate.proofs.StatePlaceLemmas.{home_if, inside_ticket}

module _ {S E A C : Type 0} (journal : S → List (StepOf E A)) (setting : S → C) (legal : C → List (StepOf E A) → Type 0) (c : C) where
  abbrev at_first : ℕ → Standing E A
  at_first first = record {
    drawn = first;
    serving = first;
    enrolled = 0;
    journal = [];
    inside = none;
    holder_of = λ t. 0;
    owner_of = λ n. 0;
  }

  pub opens : (first : ℕ) (x : S) → journal x ≡ [] → setting x ≡ c → legal c [] → GateRule journal setting legal c (opening (first ∷ first ∷ 0 ∷ []) (Some x ∷ []) (first_view c first))
  opens first x empty same ok = record {
    standing = at_first first;
    words = refl;
    behind = le_refl first;
    few = omega arith;
    is_legal = ok;
    passes = tt;
    placed = (x, refl, empty, same);
    each_view = one;
  }
    where
      one : (j : ℕ) (v : View E A C) → get_elem? (first_view c first ∷ []) j ≡ some v → ViewAgrees (at_first first) c j v
      one zero v at = subst (ViewAgrees (at_first first) c 0) (some-injective (first_view c first) v at) (
        record {
          last_served = le_refl first;
          last_drawn = le_refl first;
          last_enrolled = omega arith;
          ticket = λ t is. absurd (not_none is);
          inside = λ is. absurd (not_inside is);
          number = λ n is. absurd (not_none is);
          spare = λ _. refl;
          seen = ([], refl);
          setting = λ d is. cc;
        },
        tt,
      )
      one (suc j) v at = absurd (some-ne-none v (sym at))

  -- where each ticket was served, the state is home
  pub closes : (id : ℕ) (v : View E A C) (words : List ℕ) (slots : List (Option S)) → Final (Seen (GateRule journal setting legal c) id v) words slots → (n m : ℕ) → get_elem? words 0 ≡ some n → get_elem? words 1 ≡ some m → n ≡ m
      → (x : S) → get_elem? slots 0 ≡ some (Some x) → (k : ℕ) → v.own.number ≡ Some k → Closes journal setting legal c k v.own.seen x
  closes id v words slots last n m first second same x is k numbered =
      let (s, (r, its_place), words_are, _, stays) = last in
      let g = r.standing in
      let f = (r.each_view id v its_place).0 in
      let d : g.drawn ≡ n = some-injective g.drawn n (ap (λ (l : List ℕ). get_elem? l 0) (sym r.words ∙ words_are) ∙ first) in
      let e : g.serving ≡ m = some-injective g.serving m (ap (λ (l : List ℕ). get_elem? l 1) (sym r.words ∙ words_are) ∙ second) in
      let nobody : (j : ℕ) → g.inside ≡ some j → ⊥ = λ j its. let l = (inside_ticket journal setting legal c s r j its).0 in omega arith in
      let home = (home_if journal setting g.journal c s.homes s.views g.inside nobody r.placed).1 in
      let there : get_elem? slots 0 ≡ some (Some home.state) = stays 0 (Some home.state) (ap (λ (homes : List (maybe.Option (Option S))). get_elem? homes 0) home.at_home) in
      let it : x ≡ home.state = ap (λ o. unwrap_or o x) (some-injective (Some x) (Some home.state) (sym is ∙ there)) in
      let log : journal x ≡ g.journal = ap journal it ∙ home.has_journal in
      let (_, _, own_steps) = f.number k numbered in
      record {
        has_setting = ap setting it ∙ home.has_setting;
        is_legal = subst (legal c) (sym log) r.is_legal;
        grows = record { begins = subst (λ l. StartsWith l v.own.seen) (sym log) f.seen; own = ap (steps_of k) log ∙ own_steps };
      }
