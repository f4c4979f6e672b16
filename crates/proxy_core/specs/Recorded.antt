-- The core as a state that keeps a journal: its steps as a pass sees them, the oldest first.
use Rattle.std.specs.Prelude.{List, [], ◌++◌, length}
use Rattle.ketama.specs.Continuum.{Continuum}
use Rattle.ejector.specs.Ejection.{state}
use Rattle.ejector.specs.Ejector.{Ejection}
use Rattle.proxy_history.specs.Setting.{Setting}
use Rattle.proxy_history.specs.History.{History, Step}
use Rattle.proxy_history.specs.Past.{past}
use Rattle.proxy_history.specs.Payload.{payload}
use Rattle.proxy_history.specs.Legal.{IsLegal, IsCause}
use Rattle.proxy_history.specs.Proxy.{Proxy, setting_from}
use Rattle.proxy_history.specs.SeenSteps.{history_of_seen}
use Rattle.proxy_history.specs.declared.event.Event.{Event}
use Rattle.proxy_history.specs.declared.refusal.Refusal.{Refusal}
use Rattle.proxy_history.proofs.CallerLemmas as history
use Rattle.proxy_core.specs.Handover.{HandoverFacts}

-- a core's journal, as the gate and its passes see it
abbrev pub journal_of : Proxy → List Step
journal_of k = k.steps

-- the ring, and the rules of outlier detection with the state that it found
abbrev pub Origin : Type 0
Origin = Continuum × Ejection

-- what a core was made with
abbrev pub made_with : Proxy → Origin
made_with k = (k.setting.ring, record { rules = k.setting.rules; state = k.setting.opening })

-- the setting that these make
abbrev pub setting_by : Origin → Setting
setting_by made = setting_from made.0 made.1

-- a journal is legal where its history is
abbrev pub IsLegalJournal : Origin → List Step → Type 0
IsLegalJournal made journal = IsLegal (setting_by made) (history_of_seen journal)

-- a refusal of an event is due over a journal where it has its cause in the history
abbrev pub IsCauseIn : Origin → Refusal → Event → List Step → Type 0
IsCauseIn made r event journal = IsCause (setting_by made) (history_of_seen journal) event r

-- where outlier detection stands after a history, by the rules and from the state that it found
abbrev pub detection_after : Setting → History → Ejection
detection_after S history = record { rules = S.rules; state = state S.rules S.opening (past S history).marks }

-- what a core with this journal hands over
abbrev pub handover_of : Origin → List Step → HandoverFacts
handover_of made journal = record {
  detection = detection_after (setting_by made) (history_of_seen journal);
  steps = length journal;
  bytes = payload (history_of_seen journal);
}

-- the empty journal is legal
pub legal_at_first : (made : Origin) → IsLegalJournal made []
legal_at_first made = tt

-- each beginning of a legal journal is legal
pub legal_before : (made : Origin) (journal more : List Step) → IsLegalJournal made (journal ++ more) → IsLegalJournal made journal
legal_before made journal more legal = history.IsLegal-history_of_seen-append (setting_by made) journal more legal
