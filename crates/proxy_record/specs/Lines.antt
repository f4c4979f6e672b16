-- The lines of a record.
use Rattle.std.specs.Prelude.{◌≡◌, ℕ, List, [], ◌∷◌, ◌++◌, codes, decimal, Option}
use Rattle.std.specs.List.{concat}
use Rattle.resp_core.specs.Tree.{Tree}
use Rattle.journal_core.specs.declared.step.Step.{Step}
use Rattle.proxy_history.specs.declared.event.Event.{Event}
use Rattle.proxy_history.specs.declared.answer.Answer.{Answer}
use Rattle.proxy_record.specs.Events.{event_text}
use Rattle.proxy_record.specs.Answers.{answer_text, IsReadBackIn}
use Rattle.proxy_record.specs.Moments.{moment}
use Rattle.proxy_record.specs.declared.payloads.Payloads.{Payloads}
use Rattle.proxy_record.specs.declared.step_line.Beside.{Beside}

-- what stands before a step's event
abbrev pub head_text : ℕ → Option ℕ → ℕ → List ℕ
head_text number at pass =
    concat (codes "{\"n\": " ∷ decimal number ∷ codes ", \"at\": " ∷ []) ++ moment at ++ concat (codes ", \"pass\": " ∷ decimal pass ∷ codes ", \"event\": " ∷ [])

-- the line of a step, by the value that was found in its answer's text
abbrev pub step_text : Payloads → Beside → Step Event Answer → Option Tree → List ℕ
step_text payloads beside step found =
    head_text beside.number beside.at step.pass ++ event_text payloads beside.is_sum beside.is_cut step.event ++ codes ", \"answer\": {"
    ++ answer_text payloads beside.is_sum step.answer found ++ codes "}}\n"

-- the line of this step stands behind what there was
pub record IsStepLine (payloads : Payloads) (beside : Beside) (step : Step Event Answer) (before after : List ℕ) : Type 0 where
  pub found : Option Tree
  pub read_back : IsReadBackIn step.answer found
  pub line : after ≡ before ++ step_text payloads beside step found

-- the last line
abbrev pub end_text : ℕ → ℕ → List ℕ
end_text steps bytes = concat (codes "{\"end\": {\"steps\": " ∷ decimal steps ∷ codes ", \"bytes\": " ∷ decimal bytes ∷ codes "}}\n" ∷ [])
