-- What a history determines: its parts, those that were sent, and its marks. Each list grows at one end with each step.
use Rattle.std.specs.Prelude.{List, [], ◌∷◌, ◌++◌}
use Rattle.ejector.specs.declared.mark.Mark.{Mark}
use Rattle.proxy_history.specs.Setting.{Setting}
use Rattle.proxy_history.specs.History.{History, Step}
use Rattle.proxy_history.specs.Part.{Part, Past}
use Rattle.proxy_history.specs.Waiting.{sent_by}
use Rattle.proxy_history.specs.Arrival.{parts_by}
use Rattle.proxy_history.specs.Marks.{mark_by}

-- Each list is what it was before the step, with what the step adds.
abbrev mutual
  pub parts_in : Setting → History → List Part
  parts_in S [] = []
  parts_in S (s ∷ before) =
      parts_in S before ++ parts_by S (record { steps = before; parts = parts_in S before; sent = sent_in S before; marks = marks_in S before }) s.event

  pub sent_in : Setting → History → List Part
  sent_in S [] = []
  sent_in S (s ∷ before) =
      sent_in S before ++ sent_by (record { steps = before; parts = parts_in S before; sent = sent_in S before; marks = marks_in S before }) s.event

  pub marks_in : Setting → History → List Mark
  marks_in S [] = []
  marks_in S (s ∷ before) =
      mark_by (record { steps = before; parts = parts_in S before; sent = sent_in S before; marks = marks_in S before }) s.event ++ marks_in S before

-- what a history determines: its parts, those that were sent, its marks
abbrev pub past : Setting → History → Past
past S H = record { steps = H; parts = parts_in S H; sent = sent_in S H; marks = marks_in S H }

-- the past one step later
abbrev pub after : Setting → Step → Past → Past
after S s past = record {
  steps = s ∷ past.steps;
  parts = past.parts ++ parts_by S past s.event;
  sent = past.sent ++ sent_by past s.event;
  marks = mark_by past s.event ++ past.marks;
}
