-- What an engine keeps of the turns that it is lent, and the steps that their caller made itself.
use Rattle.std.specs.Prelude.{◌≡◌, ℕ, List}
use Rattle.ticket_gate.specs.Journal.{StartsWith, steps_of}
use Rattle.ticket_gate.specs.Turns.{TurnFacts}
use Rattle.proxy_history.specs.History.{History, Step}
use Rattle.proxy_history.specs.SeenSteps.{history_of_seen}
use Rattle.proxy_history.specs.declared.answer.Answer.{Answer}
use Rattle.proxy_history.specs.declared.event.Event.{Event}

-- the steps of this pass among those that it has seen, the newest first
abbrev pub own_steps : ℕ → List Step → History
own_steps pass seen = history_of_seen (steps_of pass seen)

-- turns of a core as contracts see them, at a place and on a state made with a setting of these types
abbrev pub CoreTurnFacts : Type 0 → Type 0 → Type 0
CoreTurnFacts Home Setting = TurnFacts Home Setting Event Answer

module _ {Home Setting : Type 0} where
  -- the steps that the caller of some turns has made so far, the newest first
  abbrev pub own_history : CoreTurnFacts Home Setting → History
  own_history turns = own_steps turns.pass turns.seen

  -- Some turns are of the same pass as before and of a state that was made with the same, and what is seen begins with what was
  -- seen before.
  pub record KeepsTurns (old new : CoreTurnFacts Home Setting) : Type 0 where
    pub pass_is : new.pass ≡ old.pass
    pub setting_is : new.setting ≡ old.setting
    pub begins : StartsWith new.seen old.seen
