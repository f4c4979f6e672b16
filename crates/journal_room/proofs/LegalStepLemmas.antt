-- The steps that a pass made stay those of a legal journal, turn after turn.
use Rattle.std.proofs.Common.{◌≡◌, ◌∙◌, List, refl, sym, ap, Result, Ok, Err, IfOk, IfErr}
use Rattle.std.proofs.Math.Logic.{∥∥₁_map}
use Rattle.ticket_gate.specs.Journal.{AddsTurn, GrowsByOthers, steps_of}
use Rattle.ticket_gate.specs.Turns.{TurnFacts, KeepsPlace, RefusesTurn}
use Rattle.ticket_gate.specs.declared.refusal.TurnRefusal.{TurnRefusal}
use Rattle.ticket_gate.specs.declared.refusal.TurnRefusal.TheVariants.{Busy, Spent, State}
use Rattle.proxy_history.specs.History.{Step}
use Rattle.proxy_history.specs.declared.answer.Answer.{Answer}
use Rattle.proxy_history.specs.declared.event.Event.{Event}
use Rattle.proxy_history.specs.declared.refusal.Refusal.{Refusal}
use Rattle.journal_room.specs.LegalSteps.{IsOfLegalJournal}

module _ {Home Setting : Type 0} (legal : Setting → List Step → Type 0) (old new : TurnFacts Home Setting Event Answer)
    (keeps : KeepsPlace old new) where
  -- a pass that made no step more
  legal_unchanged : steps_of old.pass new.seen ≡ steps_of old.pass old.seen → IsOfLegalJournal legal old → IsOfLegalJournal legal new
  legal_unchanged own o = record {
    journal = o.journal;
    is_legal = rw keeps.setting o.is_legal;
    own = rw keeps.pass (o.own ∙ sym own);
  }

  -- one turn, answered or refused
  pub legal_after : (cause : Setting → Refusal → Event → List Step → Type 0) (spent : Type 0) (event : Event)
      (result : Result Answer (TurnRefusal Refusal Event))
      → IfOk result (λ answer. AddsTurn (legal old.setting) old.pass old.seen event answer new.seen)
      → IfErr result (RefusesTurn (cause old.setting) spent old.pass old.seen event new.seen)
      → ∥ IsOfLegalJournal legal old ∥₁ → ∥ IsOfLegalJournal legal new ∥₁
  legal_after cause spent event (Ok answer) adds refuses was =
      ∣ record { journal = new.seen; is_legal = rw keeps.setting adds.is_legal; own = refl } ∣₁
  legal_after cause spent event (Err (Busy served drawn back)) adds refuses was = absurd refuses
  legal_after cause spent event (Err (Spent back)) adds refuses was =
      ∥∥₁_map was (legal_unchanged (ap (steps_of old.pass) refuses.1))
  legal_after cause spent event (Err (State why back)) adds refuses was = ∥∥₁_map was (legal_unchanged refuses.1.0.own)
