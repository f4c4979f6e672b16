-- What is handed out to a connection: each reply once, in its turn, and none after the close.
use Rattle.std.specs.Prelude.{◌≡◌, ◌↔◌, ◌<◌, ℕ, true, false, ◌∷◌, ◌++◌, Some}
use Rattle.resp_core.specs.Tree.{Tree}
use Rattle.resp_core.specs.Text.{text}
use Rattle.proxy_history.specs.Setting.{Setting}
use Rattle.proxy_history.specs.History.{History, Step, handed_count, has, is_closed}
use Rattle.proxy_history.specs.Past.{past}
use Rattle.proxy_history.specs.Outcome.{outcome}
use Rattle.proxy_history.specs.Legal.{IsLegal}
use Rattle.proxy_history.specs.Output.{transcript}
use Rattle.proxy_history.specs.OwnSteps.{is_of_connection}
use Rattle.proxy_history.specs.declared.event.Event.TheVariants.{Handed}
use Rattle.proxy_history.specs.declared.answer.Answer.TheVariants as answer

-- after the close of a connection no event of it stands, and it gets nothing more
abbrev pub ClosedGetsNothing : Type 0
ClosedGetsNothing = (S : Setting) (later before : History) (c : ℕ)
    → IsLegal S (later ++ before) → is_closed c before ≡ true
    → (has (is_of_connection c) later ≡ false)
    × (transcript c (later ++ before) ≡ transcript c before)

-- The step hands out the reply to the next command of the connection: the outcome of this command had come before the
-- step, it is the one that stands in the whole history, and its text goes out.
pub record HandsOut (S : Setting) (later before : History) (s : Step) (c : ℕ) : Type 0 where
  pub reply : Tree
  pub had_come : outcome c (handed_count c before) (past S before) ≡ Some reply
  pub stays : outcome c (handed_count c before) (past S (later ++ s ∷ before)) ≡ Some reply
  pub goes_out : s.answer ≡ answer.Bytes (text reply)

-- each Handed step hands out the outcome of the command that has as many handed out before it
abbrev pub HandedIsItsOutcome : Type 0
HandedIsItsOutcome = (S : Setting) (later before : History) (s : Step) (c : ℕ)
    → IsLegal S (later ++ s ∷ before) → s.event ≡ Handed c → HandsOut S later before s c

-- where the reply to command i of a connection was handed out: at a Handed step of it with i of them before
pub record Handing (H : History) (c i : ℕ) : Type 0 where
  pub later : History
  pub step : Step
  pub before : History
  pub split : H ≡ later ++ step ∷ before
  pub hands_out : step.event ≡ Handed c
  pub number_is : handed_count c before ≡ i

-- There is such a step exactly for the commands before the next one to be handed out, and it is the only one.
pub record IsHandedOnce (H : History) (c i : ℕ) : Type 0 where
  pub at_one : (i < handed_count c H) ↔ Handing H c i
  pub same_step : (x y : Handing H c i) → x.step ≡ y.step
  pub same_place : (x y : Handing H c i) → x.before ≡ y.before

-- the reply to each command is handed out once at most
abbrev pub RepliesGoOutOnce : Type 0
RepliesGoOutOnce = (H : History) (c i : ℕ) → IsHandedOnce H c i
