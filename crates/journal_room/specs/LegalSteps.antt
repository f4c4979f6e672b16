-- What is known of the steps that a pass made.
use Rattle.std.specs.Prelude.{◌≡◌, List}
use Rattle.ticket_gate.specs.Journal.{steps_of}
use Rattle.ticket_gate.specs.Gate.{GateFacts}
use Rattle.ticket_gate.specs.Turns.{SeatedFacts, TurnFacts}
use Rattle.proxy_history.specs.History.{Step}
use Rattle.proxy_history.specs.declared.answer.Answer.{Answer}
use Rattle.proxy_history.specs.declared.event.Event.{Event}

-- The steps that a pass made are its steps in this journal, which is legal.
pub record IsOfLegalJournal {Home Setting : Type 0} (legal : Setting → List Step → Type 0) (turns : TurnFacts Home Setting Event Answer) : Type 0 where
  pub journal : List Step
  pub is_legal : legal turns.setting journal
  pub own : steps_of turns.pass journal ≡ steps_of turns.pass turns.seen

-- the turns of a seat at its gate
abbrev pub turns_of : {Setting : Type 0} → SeatedFacts Event Answer Setting → TurnFacts (GateFacts Setting) Setting Event Answer
turns_of seat = record { home = seat.gate; pass = seat.pass.number; setting = seat.gate.setting; seen = seat.pass.known.seen }
