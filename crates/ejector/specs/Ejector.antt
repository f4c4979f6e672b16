-- What the contracts of an ejector and of a snapshot see of it.
use Rattle.std.specs.Prelude.{ℕ, Bool, true, false}
use Rattle.ejector.specs.declared.mark.Mark.{Mark}
use Rattle.ejector.specs.declared.mark.Mark.TheVariants.{Good, Bad}
use Rattle.ejector.specs.declared.settings.Rules.{Rules}
use Rattle.ejector.specs.State.{State}

-- what contracts see of an ejector: its rules and its state
pub record Ejection : Type 0 where
  pub rules : Rules
  pub state : State

-- the mark of a result
abbrev pub result_mark : Bool → ℕ → ℕ → Mark
result_mark true host t = Good host t
result_mark false host t = Bad host t
