-- Loads that change what a place knows and nothing else.
use Rattle.std.proofs.Common.{◌≡◌, ℕ, List, [], refl, sym, subst, ◌∙◌, le_refl, Option, None}
use mathlib.Core.Option.{none}
use Rattle.atomic_table.specs.Table.{step, keeps, Allows}
use Rattle.journal_core.specs.declared.step.Step.{Step as StepOf}
use Rattle.ticket_gate.specs.declared.view.Knowledge.{Knowledge}
use Rattle.ticket_gate.specs.declared.view.View.{View}
use Rattle.ticket_gate.specs.Rule.{Standing, Agrees, GateRule, view_of}
use Rattle.ticket_gate.specs.Steps.{SeatState, ReadsEnrolled, ReadsDrawn, LooksAtServing, after_look}
use Rattle.ticket_gate.proofs.SeatLemmas.{not_none}
use Rattle.ticket_gate.proofs.atomic_steps.FrameLemmas.{Whole, drawn_at, serving_at, enrolled_at, stays, goes_at}

module _ {E A C : Type 0} (g : Standing E A) (c : C) (id : ℕ) (k : Knowledge E A C) (f : Agrees g c id k) where
  pub enrolled_is_read : Agrees g c id (record k { last_enrolled = g.enrolled })
  enrolled_is_read = record {
    last_served = f.last_served;
    last_drawn = f.last_drawn;
    last_enrolled = le_refl g.enrolled;
    ticket = f.ticket;
    inside = f.inside;
    number = f.number;
    spare = f.spare;
    seen = f.seen;
    setting = f.setting;
  }

  pub drawn_is_read : Agrees g c id (record k { last_drawn = g.drawn })
  drawn_is_read = record {
    last_served = f.last_served;
    last_drawn = le_refl g.drawn;
    last_enrolled = f.last_enrolled;
    ticket = f.ticket;
    inside = f.inside;
    number = f.number;
    spare = f.spare;
    seen = f.seen;
    setting = f.setting;
  }

  pub serving_is_read : Agrees g c id (after_look k g.serving)
  serving_is_read = record {
    last_served = le_refl g.serving;
    last_drawn = f.last_drawn;
    last_enrolled = f.last_enrolled;
    ticket = f.ticket;
    inside = f.inside;
    number = f.number;
    spare = f.spare;
    seen = f.seen;
    setting = f.setting;
  }

module _ {S E A C : Type 0} (journal : S → List (StepOf E A)) (setting : S → C) (legal : C → List (StepOf E A) → Type 0) (c : C) where
  abbrev Rule : Whole S E A C → Type 0
  Rule = GateRule journal setting legal c

  reads_enrolled-own : (slots id : ℕ) (k : Knowledge E A C) (held : List (ℕ × Option S)) → Allows Rule slots id (view_of k, held) 2 (λ n. n) (ReadsEnrolled (step slots 2 0 0 none) (view_of k, held))
  reads_enrolled-own slots id k held s r len at small =
      let g = r.standing in
      let found = enrolled_at journal setting legal c s r in
      let w : View E A C = view_of (record k { last_enrolled = g.enrolled }) in
      goes_at journal setting legal c s id 2 held (ReadsEnrolled (step slots 2 0 0 none) (view_of k, held)) (λ n. n) g.enrolled found (
        w,
        keeps,
        tt,
        stays journal setting legal c s r 2 id g.enrolled (view_of k) w held found at (λ i. i) (enrolled_is_read g c id k (r.each_view id (view_of k) at).0, tt),
        (refl, r.few),
      )

  reads_drawn-own : (slots id : ℕ) (k : Knowledge E A C) (held : List (ℕ × Option S)) → Allows Rule slots id (view_of k, held) 0 (λ n. n) (ReadsDrawn (step slots 0 0 0 none) (view_of k, held))
  reads_drawn-own slots id k held s r len at small =
      let g = r.standing in
      let found = drawn_at journal setting legal c s r in
      let w : View E A C = view_of (record k { last_drawn = g.drawn }) in
      goes_at journal setting legal c s id 0 held (ReadsDrawn (step slots 0 0 0 none) (view_of k, held)) (λ n. n) g.drawn found (
        w,
        keeps,
        tt,
        stays journal setting legal c s r 0 id g.drawn (view_of k) w held found at (λ i. i) (drawn_is_read g c id k (r.each_view id (view_of k) at).0, tt),
        refl,
      )

  looks-own : (slots id : ℕ) (k : Knowledge E A C) (held : List (ℕ × Option S)) → k.ticket ≡ None
      → Allows Rule slots id (view_of k, held) 1 (λ n. n) (LooksAtServing journal setting legal (step slots 1 0 0 none) (view_of k, held))
  looks-own slots id k held no_ticket s r len at small =
      let g = r.standing in
      let found = serving_at journal setting legal c s r in
      let w : View E A C = view_of (after_look k g.serving) in
      goes_at journal setting legal c s id 1 held (LooksAtServing journal setting legal (step slots 1 0 0 none) (view_of k, held)) (λ n. n) g.serving found (
        w,
        keeps,
        tt,
        stays journal setting legal c s r 1 id g.serving (view_of k) w held found at (λ i. i) (serving_is_read g c id k (r.each_view id (view_of k) at).0, tt),
        ((λ is. absurd (not_none (sym no_ticket ∙ is))), λ _. refl),
      )

  pub reads_enrolled : (slots id : ℕ) (me : SeatState S E A C) → me ≡ (view_of me.0.own, []) → Allows Rule slots id me 2 (λ n. n) (ReadsEnrolled (step slots 2 0 0 none) me)
  reads_enrolled slots id me is = subst (λ (m : SeatState S E A C). Allows Rule slots id m 2 (λ n. n) (ReadsEnrolled (step slots 2 0 0 none) m)) (sym is) (reads_enrolled-own slots id me.0.own [])

  pub reads_drawn : (slots id : ℕ) (me : SeatState S E A C) → me ≡ (view_of me.0.own, []) → Allows Rule slots id me 0 (λ n. n) (ReadsDrawn (step slots 0 0 0 none) me)
  reads_drawn slots id me is = subst (λ (m : SeatState S E A C). Allows Rule slots id m 0 (λ n. n) (ReadsDrawn (step slots 0 0 0 none) m)) (sym is) (reads_drawn-own slots id me.0.own [])

  -- a place with no ticket only looks
  pub looks_without_ticket : (slots id : ℕ) (me : SeatState S E A C) → me ≡ (view_of me.0.own, []) → me.0.own.ticket ≡ None → Allows Rule slots id me 1 (λ n. n) (LooksAtServing journal setting legal (step slots 1 0 0 none) me)
  looks_without_ticket slots id me is no_ticket = subst (λ (m : SeatState S E A C). Allows Rule slots id m 1 (λ n. n) (LooksAtServing journal setting legal (step slots 1 0 0 none) m)) (sym is) (looks-own slots id me.0.own [] no_ticket)
