-- Where the state is: in the slot, or out with the seat that is inside.
use Rattle.std.proofs.Common.{◌≡◌, ℕ, ◌<◌, true, List, [], ◌∷◌, ◌++◌, set, refl, sym, ap, ◌∙◌, subst, Option, Some}
use mathlib.Core.Option as maybe
use mathlib.Core.Option.{none, some, some-injective}
use mathlib.Core.Logic.{dite}
use native.Mathlib.Decide.{ℕ_discrete}
use lib.ListN.{get_elem?}
use Rattle.atomic_table.specs.Table.{State}
use Rattle.atomic_table.proofs.Lists.{set_here, set_else, at_longer}
use Rattle.journal_core.specs.declared.step.Step.{Step as StepOf}
use Rattle.ticket_gate.specs.declared.view.View.{View}
use Rattle.ticket_gate.specs.Rule.{StateIsPlaced, GateRule}
use Rattle.ticket_gate.proofs.SeatLemmas.{within}

module _ {S E A C : Type 0} (journal : S → List (StepOf E A)) (setting : S → C) where
  -- a seat that stays inside, if it was, may know more
  pub placed-set : (log : List (StepOf E A)) (c : C) (homes : List (maybe.Option (Option S))) (views : List (View E A C)) (id : ℕ) (v w : View E A C) (inside : maybe.Option ℕ) → get_elem? views id ≡ some v → (v.own.inside ≡ true → w.own.inside ≡ true)
      → StateIsPlaced journal setting log c homes views inside → StateIsPlaced journal setting log c homes (set views id w) inside
  placed-set log c homes views id v w maybe.none at stays p = p
  placed-set log c homes views id v w (maybe.some j) at stays (x, out, seated, in_now) = dite (ℕ_discrete j id)
      (λ is. let same : x ≡ v = some-injective x v (sym seated ∙ ap (get_elem? views) is ∙ at) in
      (w, out, ap (get_elem? (set views id w)) is ∙ set_here views id w (within views id v at), stays (ap (λ (u : View E A C). u.own.inside) (sym same) ∙ in_now)))
      (λ apart. (x, out, set_else views id j w apart ∙ seated, in_now))

  -- there may be one more seat
  pub placed-more : (log : List (StepOf E A)) (c : C) (homes : List (maybe.Option (Option S))) (views : List (View E A C)) (w : View E A C) (inside : maybe.Option ℕ)
      → StateIsPlaced journal setting log c homes views inside → StateIsPlaced journal setting log c homes (views ++ w ∷ []) inside
  placed-more log c homes views w maybe.none p = p
  placed-more log c homes views w (maybe.some j) (v, out, seated, in_now) = (v, out, at_longer views (w ∷ []) j v seated, in_now)

  -- the state is in the slot, with this journal and this setting
  pub record IsHome (log : List (StepOf E A)) (c : C) (homes : List (maybe.Option (Option S))) : Type 0 where
    pub state : S
    pub at_home : homes ≡ some (Some state) ∷ []
    pub has_journal : journal state ≡ log
    pub has_setting : setting state ≡ c

  -- so it is where no seat is inside
  pub home_if : (log : List (StepOf E A)) (c : C) (homes : List (maybe.Option (Option S))) (views : List (View E A C)) (inside : maybe.Option ℕ) → ((j : ℕ) → inside ≡ some j → ⊥) → StateIsPlaced journal setting log c homes views inside
      → (inside ≡ none) × IsHome log c homes
  home_if log c homes views maybe.none nobody (x, home, same, is) = (refl, record { state = x; at_home = home; has_journal = same; has_setting = is })
  home_if log c homes views (maybe.some j) nobody p = absurd (nobody j refl)

  -- the seat that is inside has the ticket that is served
  pub inside_ticket : (legal : C → List (StepOf E A) → Type 0) (c : C) (s : State (Option S) (View E A C)) (r : GateRule journal setting legal c s) (j : ℕ) → r.standing.inside ≡ some j
      → (r.standing.serving < r.standing.drawn) × (r.standing.holder_of r.standing.serving ≡ j) × ((v : View E A C) → get_elem? s.views j ≡ some v → v.own.inside ≡ true)
  inside_ticket legal c s r j is =
      let (w, _, seated, in_now) = subst (StateIsPlaced journal setting r.standing.journal c s.homes s.views) is r.placed in
      let f = (r.each_view j w seated).0 in
      let (_, drawn, holds) = f.ticket r.standing.serving (f.inside in_now).0 in
      (drawn, holds, λ v at. ap (λ (u : View E A C). u.own.inside) (some-injective v w (sym at ∙ seated)) ∙ in_now)
