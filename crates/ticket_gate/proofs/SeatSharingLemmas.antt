-- Seats are split and joined: a spare place becomes two, and two passes come into one seat and part again.
use Rattle.std.proofs.Common.{◌≡◌, ◌≢◌, ℕ, false, List, [], length, set, refl, sym, ap, ◌∙◌, subst, ⊎_elim, arith, le_refl, Some, None}
use mathlib.Core.Option.{some}
use lib.ListN.{get_elem?}
use Rattle.atomic_table.specs.Table.{Splits, Joins}
use Rattle.atomic_table.proofs.Lists.{set_else, set_again}
use Rattle.journal_core.specs.declared.step.Step.{Step as StepOf}
use Rattle.ticket_gate.specs.declared.view.Knowledge.{Knowledge}
use Rattle.ticket_gate.specs.declared.view.View.{View}
use Rattle.ticket_gate.specs.Rule.{Standing, Agrees, ViewAgrees, GateRule, view_of, spent_view}
use Rattle.ticket_gate.specs.Steps.{pair_of, first_of, second_of}
use Rattle.ticket_gate.proofs.JournalLemmas.{append-nil}
use Rattle.ticket_gate.proofs.SeatLemmas.{at_more, each_after, not_inside, not_none, same_number, given, given-here, given-else, moved, moved-here, moved-else, moved-to}
use Rattle.ticket_gate.proofs.OtherSeatLemmas.{Carries, view_agrees_on}
use Rattle.ticket_gate.proofs.StatePlaceLemmas.{placed-set, placed-more}
use Rattle.ticket_gate.proofs.atomic_steps.FrameLemmas.{Whole}

module _ {E A C : Type 0} (g : Standing E A) (c : C) where
  abbrev with_owners : (ℕ → ℕ) → Standing E A
  with_owners owner_of = record g { owner_of = owner_of }

  -- a place outside and with no ticket comes from the seat j to the seat i, and its number with it
  agrees_at : (owner_of : ℕ → ℕ) (j i : ℕ) (k : Knowledge E A C) → k.ticket ≡ None → k.inside ≡ false → ((n : ℕ) → k.number ≡ Some n → g.owner_of n ≡ j → owner_of n ≡ i) → Agrees g c j k → Agrees (with_owners owner_of) c i k
  agrees_at owner_of j i k no_ticket outside to f = record {
    last_served = f.last_served;
    last_drawn = f.last_drawn;
    last_enrolled = f.last_enrolled;
    ticket = λ t is. absurd (not_none (sym no_ticket ∙ is));
    inside = λ is. absurd (not_inside (sym outside ∙ is));
    number = λ n is. let (given_out, owns, own_steps) = f.number n is in (given_out, to n is owns, own_steps);
    spare = f.spare;
    seen = f.seen;
    setting = f.setting;
  }

  spent_agrees : (j : ℕ) → ViewAgrees g c j spent_view
  spent_agrees j = (
    record {
      last_served = omega arith;
      last_drawn = omega arith;
      last_enrolled = omega arith;
      ticket = λ t is. absurd (not_none is);
      inside = λ is. absurd (not_inside is);
      number = λ n is. absurd (not_none is);
      spare = λ _. refl;
      seen = (g.journal, refl);
      setting = λ d is. cc;
    },
    tt,
  )

  -- a seat whose numbers stay its own
  owners_carry : (owner_of : ℕ → ℕ) (j : ℕ) → ((n : ℕ) → g.owner_of n ≡ j → owner_of n ≡ j) → Carries g (with_owners owner_of) j
  owners_carry owner_of j keeps = record {
    drawn = le_refl g.drawn;
    serving = le_refl g.serving;
    enrolled = le_refl g.enrolled;
    ticket = λ t a b its. (a, its);
    inside = λ its. (refl, its, refl);
    number = λ n l its. (keeps n its, refl);
    more = ([], sym (append-nil g.journal));
  }

module _ {S E A C : Type 0} (journal : S → List (StepOf E A)) (setting : S → C) (legal : C → List (StepOf E A) → Type 0) (c : C) where
  abbrev Rule : Whole S E A C → Type 0
  Rule = GateRule journal setting legal c

  halves_spare-own : (id : ℕ) (k : Knowledge E A C) → k.number ≡ None → k.ticket ≡ None → k.inside ≡ false → Splits Rule id (view_of k) (view_of k) (view_of k)
  halves_spare-own id k no_number no_ticket outside s r at =
      let g = r.standing in
      let f = (r.each_view id (view_of k) at).0 in
      let copy : (j : ℕ) → ViewAgrees g c j (view_of k) = λ j. (agrees_at g c g.owner_of id j k no_ticket outside (λ n is. absurd (not_none (sym no_number ∙ is))) f, tt) in record {
        standing = g;
        words = r.words;
        behind = r.behind;
        few = r.few;
        is_legal = r.is_legal;
        passes = r.passes;
        placed = placed-more journal setting g.journal c s.homes (set s.views id (view_of k)) (view_of k) g.inside (placed-set journal setting g.journal c s.homes s.views id (view_of k) (view_of k) g.inside at (λ i. i) r.placed);
        each_view = λ j u there. ⊎_elim
            (λ was. r.each_view j u (subst (λ l. get_elem? l j ≡ some u) (set_again s.views id (view_of k) at) was))
            (λ (z : (j ≡ length (set s.views id (view_of k))) × (view_of k ≡ u)). subst (ViewAgrees g c j) z.1 (copy j))
            (at_more (set s.views id (view_of k)) (view_of k) u j there);
      }

  pairs_passes-own : (id other : ℕ) (k l : Knowledge E A C) → k.ticket ≡ None → k.inside ≡ false → l.ticket ≡ None → l.inside ≡ false
      → Joins Rule id (view_of k) other (view_of l) (pair_of (view_of k) (view_of l)) spent_view
  pairs_passes-own id other k l no_ticket outside no_ticket' outside' s r at apart there =
      let g = r.standing in
      let both : View E A C = pair_of (view_of k) (view_of l) in
      let there' : get_elem? s.views other ≡ some (view_of l) = sym (set_else s.views id other both apart) ∙ there in
      let f = (r.each_view id (view_of k) at).0 in
      let f' = (r.each_view other (view_of l) there').0 in
      let owner_of : ℕ → ℕ = moved other id g.owner_of in
      let h : Standing E A = record g { owner_of = owner_of } in
      let carries : (j : ℕ) → j ≢ other → Carries g h j = λ j away. owners_carry g c owner_of j (λ n its. moved-else other id n g.owner_of (λ is. away (sym its ∙ is)) ∙ its) in
      let mine : ViewAgrees h c id both = (
        agrees_at g c owner_of id id k no_ticket outside (λ n is its. moved-to other id n g.owner_of its) f,
        (
          agrees_at g c owner_of other id l no_ticket' outside' (λ n is its. moved-here other id n g.owner_of its) f',
          no_ticket',
          outside',
          λ n m is is' same. apart (sym (f'.number m is').1 ∙ ap g.owner_of (sym same) ∙ (f.number n is).1),
        ),
      ) in record {
        standing = h;
        words = r.words;
        behind = r.behind;
        few = r.few;
        is_legal = r.is_legal;
        passes = r.passes;
        placed = placed-set journal setting g.journal c s.homes (set s.views id both) other (view_of l) spent_view g.inside there (λ i. absurd (not_inside (sym outside' ∙ i)))
            (placed-set journal setting g.journal c s.homes s.views id (view_of k) both g.inside at (λ i. i) r.placed);
        each_view = each_after (ViewAgrees h c) (set s.views id both) other spent_view (spent_agrees h c other)
            (λ j u away e. each_after (λ i v. i ≢ other → ViewAgrees h c i v) s.views id both (λ _. mine) (λ i v _ was away'. view_agrees_on g h c i (carries i away') v (r.each_view i v was)) j u e away);
      }

  parts_passes-own : (id n m : ℕ) (k l : Knowledge E A C) → k.number ≡ Some n → l.number ≡ Some m → k.ticket ≡ None → k.inside ≡ false → Splits Rule id (record { own = k; other = Some l }) (view_of k) (view_of l)
  parts_passes-own id n m k l numbered numbered' no_ticket outside s r at =
      let g = r.standing in
      let v : View E A C = record { own = k; other = Some l } in
      let (f, (f', no_ticket', outside', numbers_differ)) = r.each_view id v at in
      let last : ℕ = length (set s.views id (view_of k)) in
      let owner_of : ℕ → ℕ = given m last g.owner_of in
      let h : Standing E A = record g { owner_of = owner_of } in
      let carries : (j : ℕ) → j ≢ id → Carries g h j = λ j away. owners_carry g c owner_of j (λ i its. given-else m last i g.owner_of (λ same. away (sym its ∙ ap g.owner_of same ∙ (f'.number m numbered').1)) ∙ its) in record {
        standing = h;
        words = r.words;
        behind = r.behind;
        few = r.few;
        is_legal = r.is_legal;
        passes = r.passes;
        placed = placed-more journal setting g.journal c s.homes (set s.views id (view_of k)) (view_of l) g.inside (placed-set journal setting g.journal c s.homes s.views id v (view_of k) g.inside at (λ i. i) r.placed);
        each_view = λ j u e. ⊎_elim
            (λ was. each_after (ViewAgrees h c) s.views id (view_of k)
            (agrees_at g c owner_of id id k no_ticket outside (λ i is its. given-else m last i g.owner_of (λ same. numbers_differ i m is numbered' same) ∙ its) f, tt)
            (λ i y away there. view_agrees_on g h c i (carries i away) y (r.each_view i y there)) j u was)
            (λ (z : (j ≡ last) × (view_of l ≡ u)). subst (λ (y : ℕ × View E A C). ViewAgrees h c y.0 y.1) (λ i. (sym z.0 i, z.1 i))
            (agrees_at g c owner_of id last l no_ticket' outside' (λ i is its. ap owner_of (same_number i m (sym is ∙ numbered')) ∙ given-here m last g.owner_of) f', tt))
            (at_more (set s.views id (view_of k)) (view_of l) u j e);
      }

  pub halves_spare : (id : ℕ) (v : View E A C) → v ≡ view_of v.own → v.own.number ≡ None → v.own.ticket ≡ None → v.own.inside ≡ false → Splits Rule id v v v
  halves_spare id v is no_number no_ticket outside = subst (λ (u : View E A C). Splits Rule id u u u) (sym is) (halves_spare-own id v.own no_number no_ticket outside)

  pub pairs_passes : (id other : ℕ) (v w : View E A C) → v ≡ view_of v.own → w ≡ view_of w.own → v.own.ticket ≡ None → v.own.inside ≡ false → w.own.ticket ≡ None → w.own.inside ≡ false → Joins Rule id v other w (pair_of v w) spent_view
  pairs_passes id other v w is is' no_ticket outside no_ticket' outside' = subst (λ (u : View E A C × View E A C). Joins Rule id u.0 other u.1 (pair_of u.0 u.1) spent_view) (λ i. (sym is i, sym is' i))
      (pairs_passes-own id other v.own w.own no_ticket outside no_ticket' outside')

  pub parts_passes : (id n m : ℕ) (v : View E A C) (k l : Knowledge E A C) → v ≡ record { own = k; other = Some l } → k.number ≡ Some n → l.number ≡ Some m → k.ticket ≡ None → k.inside ≡ false → Splits Rule id v (first_of v) (second_of v)
  parts_passes id n m v k l is numbered numbered' no_ticket outside = subst (λ (u : View E A C). Splits Rule id u (first_of u) (second_of u)) (sym is) (parts_passes-own id n m k l numbered numbered' no_ticket outside)
