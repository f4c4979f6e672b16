-- What the rule says, sentence by sentence.
use Rattle.std.proofs.Common.{◌≡◌, ℕ, Bool, List, [], ◌∷◌, true, false, refl, sym, ap, ◌∙◌, subst, inl, ⊎_elim, Option, Some}
use mathlib.Core.Option as maybe
use mathlib.Core.Option.{some-ne-none, some-injective}
use lib.ListN.{get_elem?}
use Rattle.atomic_table.specs.Table.{State}
use Rattle.journal_core.specs.declared.step.Step.{Step as StepOf}
use Rattle.ticket_gate.specs.declared.view.Knowledge.{Knowledge}
use Rattle.ticket_gate.specs.declared.view.View.{View}
use Rattle.ticket_gate.specs.Rule.{Standing, Agrees, OtherAgrees, StateIsPlaced, GateRule}
use Rattle.ticket_gate.specs.PlainRule.{IsAt, HasState, IsOut, PlainRule}
use Rattle.ticket_gate.proofs.SeatLemmas.{not_inside}

module _ {S E A C : Type 0} (journal : S → List (StepOf E A)) (setting : S → C) (legal : C → List (StepOf E A) → Type 0) (c : C) (s : State (Option S) (View E A C)) (r : GateRule journal setting legal c s) where
  abbrev g : Standing E A
  g = r.standing

  second_agrees : (j : ℕ) (k l : Knowledge E A C) (o : Option (Knowledge E A C)) → o ≡ Some l → OtherAgrees g c j k o → OtherAgrees g c j k (Some l)
  second_agrees j k l o is = subst (OtherAgrees g c j k) is

  -- what the rule says of each place
  agrees : (j : ℕ) (k : Knowledge E A C) → IsAt s j k → Agrees g c j k
  agrees j k (v, seated, knows) = ⊎_elim
      (λ (own : v.own ≡ k). subst (Agrees g c j) own (r.each_view j v seated).0)
      (λ (other : v.other ≡ Some k). (second_agrees j v.own k v.other other (r.each_view j v seated).1).0)
      knows

  in_or_out : (b : Bool) → (b ≡ true → ⊥) → b ≡ false
  in_or_out true never = absurd (never refl)
  in_or_out false never = refl

  not_home : (x : S) → HasState s x → IsOut s → ⊥
  not_home x home out = let e : maybe.some (Some x) ∷ [] ≡ maybe.none ∷ [] = sym home ∙ out in cc

  out_if_inside : (j : ℕ) (k : Knowledge E A C) → IsAt s j k → k.inside ≡ true → IsOut s
  out_if_inside j k at is = (subst (StateIsPlaced journal setting g.journal c s.homes s.views) ((agrees j k at).inside is).1 r.placed).1

  inside_if_out : (inside : maybe.Option ℕ) → StateIsPlaced journal setting g.journal c s.homes s.views inside → IsOut s → (j : ℕ) × (k : Knowledge E A C) × IsAt s j k × (k.inside ≡ true)
  inside_if_out maybe.none (x, home, _, _) out = absurd (not_home x home out)
  inside_if_out (maybe.some j) (v, _, seated, in_now) out = (j, v.own, (v, seated, inl refl), in_now)

  home_if_nobody : (inside : maybe.Option ℕ) → StateIsPlaced journal setting g.journal c s.homes s.views inside → ((j : ℕ) (k : Knowledge E A C) → IsAt s j k → k.inside ≡ false) → (x : S) × HasState s x
  home_if_nobody maybe.none (x, home, _, _) never = (x, home)
  home_if_nobody (maybe.some j) (v, _, seated, in_now) never = absurd (not_inside (sym (never j v.own (v, seated, inl refl)) ∙ in_now))

  nobody_if_home : (x : S) → HasState s x → (j : ℕ) (k : Knowledge E A C) → IsAt s j k → k.inside ≡ false
  nobody_if_home x home j k at = in_or_out k.inside (λ is. not_home x home (out_if_inside j k at is))

  -- the state at home has the journal
  journal_at_home : (inside : maybe.Option ℕ) → StateIsPlaced journal setting g.journal c s.homes s.views inside → (x : S) → HasState s x → (journal x ≡ g.journal) × (setting x ≡ c)
  journal_at_home maybe.none (y, home', has_journal, has_setting) x home = let same : x ≡ y = (let e : maybe.some (Some x) ∷ [] ≡ maybe.some (Some y) ∷ [] = sym home ∙ home' in cc) in (ap journal same ∙ has_journal, ap setting same ∙ has_setting)
  journal_at_home (maybe.some j) p x home = absurd (not_home x home p.1)

  second_of_two : (j : ℕ) (v : View E A C) (l : Knowledge E A C) → get_elem? s.views j ≡ maybe.some v → v.other ≡ Some l → OtherAgrees g c j v.own (Some l)
  second_of_two j v l at is = second_agrees j v.own l v.other is (r.each_view j v at).1

  pub plain_sentences : PlainRule journal setting legal c s
  plain_sentences = record {
    drawn = g.drawn;
    serving = g.serving;
    enrolled = g.enrolled;
    log = g.journal;
    words = r.words;
    behind = record {
      served = r.behind;
      few = r.few;
      last_served = λ j k at. (agrees j k at).last_served;
      last_drawn = λ j k at. (agrees j k at).last_drawn;
      last_enrolled = λ j k at. (agrees j k at).last_enrolled;
    };
    tickets = record {
      waiting = λ j t k at is. let (waits, drawn, _) = (agrees j k at).ticket t is in (waits, drawn);
      differ = λ i j t k l at there is is'.
          let (_, _, holds) = (agrees i k at).ticket t is in
          let (_, _, holds') = (agrees j l there).ticket t is' in
          sym holds ∙ holds';
      second = λ j v l at is. (second_of_two j v l at is).1;
    };
    inside = record {
      one = λ i j k l at there is is'. some-injective i j (sym ((agrees i k at).inside is).1 ∙ ((agrees j l there).inside is').1);
      served = λ j k at is. ((agrees j k at).inside is).0;
      out = ((λ (j, k, at, in_now). out_if_inside j k at in_now), inside_if_out g.inside r.placed);
      home = (home_if_nobody g.inside r.placed, (λ home. nobody_if_home home.0 home.1));
    };
    numbers = record {
      given_out = λ j n k at is. ((agrees j k at).number n is).0;
      differ = λ i j n k l at there is is'. sym ((agrees i k at).number n is).1 ∙ ((agrees j l there).number n is').1;
      differ_in_one = λ j n m v l at is numbered numbered'. let (_, _, _, apart) = second_of_two j v l at is in apart n m numbered numbered';
      spare = λ j k at is. (agrees j k at).spare is;
    };
    journals = record {
      at_home = journal_at_home g.inside r.placed;
      inside = λ j k at is. let (_, _, has_seen) = (agrees j k at).inside is in has_seen;
      is_legal = r.is_legal;
      passes = r.passes;
      seen = λ j k at. (agrees j k at).seen;
      own = λ j n k at is. let (_, _, own_steps) = (agrees j k at).number n is in own_steps;
      one_setting = λ j k d at is. (agrees j k at).setting d is;
    };
  }
