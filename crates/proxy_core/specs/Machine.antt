-- What a turn does with what the core keeps.
use Rattle.std.specs.Prelude.{◌≡◌, ◌+◌, ◌-◌, ℕ, Option, Some, None, List, [], length, reverse, is_some}
use Rattle.std.specs.Option.{unwrap_or}
use Rattle.resp_core.specs.Tree.{null_bulk}
use Rattle.resp_core.specs.Text.{text}
use Rattle.journal_core.specs.Journal.{IsFull}
use Rattle.ejector.specs.Settings.{first_fault}
use Rattle.ejector.specs.Opening.{IsOpening}
use Rattle.ejector.specs.declared.mark.Mark.{Mark}
use Rattle.proxy_history.specs.Setting.{Setting, hosts}
use Rattle.proxy_history.specs.History.{History}
use Rattle.proxy_history.specs.Legal.{IsLegal}
use Rattle.proxy_history.specs.Marks.{mark_of_fault}
use Rattle.proxy_history.specs.Cause.{Grounds, first_true, causes_by}
use Rattle.proxy_history.specs.Payload.{length_of_event}
use Rattle.proxy_history.specs.declared.event.Event.{Event}
use Rattle.proxy_history.specs.declared.event.Event.TheVariants.{Taken, Handed}
use Rattle.proxy_history.specs.declared.event.Kind.{Kind}
use Rattle.proxy_history.specs.declared.refusal.Refusal.{Refusal}
use Rattle.proxy_history.specs.declared.refusal.Refusal.TheVariants as refusal
use Rattle.proxy_core.specs.Connections.{connection_at, is_finishing_in, left_in, reply_in}
use Rattle.proxy_core.specs.Pipelines.{PipelineState, failed_pipeline, pipeline_at, text_of_oldest, with_pipeline}
use Rattle.proxy_core.specs.Memory.{Memory, memory_of}
use Rattle.proxy_core.specs.declared.state.connection.Connection.{Connection}
use Rattle.proxy_core.specs.declared.machine.Machine.{Machine}
use Rattle.proxy_core.specs.declared.machine.Done.{Done}

-- the setting of a machine
abbrev pub setting_in : Machine → Setting
setting_in m = record { ring = m.ring; rules = m.ejector.rules; opening = m.opening.value.state }

-- what a machine keeps
abbrev pub memory_in : Machine → Memory
memory_in m = record {
  bytes = m.journal.bytes;
  connections = m.connections.numbered;
  closed = m.connections.closed;
  pipelines = m.pipelines.states;
  hosts = m.ejector.state;
}

-- the steps so far, the newest first
abbrev pub history_in : Machine → History
history_in m = reverse m.journal.steps

-- The steps are a legal history, and what is kept beside them is what it determines. The ring and outlier detection are of
-- the same hosts, no setting is out of its range, and the opening state is one that the settings allow.
pub record IsKept (m : Machine) : Type 0 where
  pub legal : IsLegal (setting_in m) (history_in m)
  pub memory : memory_in m ≡ memory_of (setting_in m) (history_in m)
  pub hosts : m.ejector.rules.hosts ≡ m.ring.hosts
  pub rules : first_fault m.ejector.rules ≡ None
  pub opening : IsOpening m.ejector.rules m.opening.value.state

-- CAUSES

-- what decides whether an event is refused, read off what is kept
abbrev pub grounds_in : Setting → Memory → Grounds
grounds_in S m = record {
  open_count = length m.connections - m.closed;
  is_open = λ c. is_some (connection_at c m.connections);
  is_finishing = λ c. is_finishing_in (connection_at c m.connections);
  left = λ c. left_in (connection_at c m.connections);
  is_ready = λ c. is_some (reply_in (connection_at c m.connections));
  hosts = hosts S;
  waiting = λ h. length (pipeline_at h m.pipelines).waiting;
  flying = λ h. length (pipeline_at h m.pipelines).flying;
  epoch = λ h. (pipeline_at h m.pipelines).epoch;
}

-- the first cause of an event's own that holds
abbrev pub own_cause_in : Setting → Memory → Event → Option Refusal
own_cause_in S m event = first_true (causes_by (grounds_in S m) event)

-- RESULTS

-- the mark of a fault, if it is one
abbrev pub fault_mark : PipelineState → ℕ → Kind → ℕ → List Mark
fault_mark p host kind t = mark_of_fault (length p.waiting) (length p.flying) host kind t

-- PAYLOAD

-- the text of the reply that is handed out next
abbrev pub reply_text : Option Connection → List ℕ
reply_text k = text (unwrap_or (reply_in k) null_bulk)

-- the text that the answer to an event has
abbrev pub text_in : Memory → Event → List ℕ
text_in m (Taken host) = text_of_oldest (pipeline_at host m.pipelines).waiting
text_in m (Handed conn) = reply_text (connection_at conn m.connections)
text_in m _ = []

-- the bytes that the step of an event adds to the journal
abbrev pub payload_in : Memory → Event → ℕ
payload_in m event = length_of_event event + length (text_in m event)

-- TURNS

-- Nothing that counts has changed.
pub record IsSame (old new : Machine) : Type 0 where
  pub setting : setting_in new ≡ setting_in old
  pub steps : new.journal.steps ≡ old.journal.steps
  pub records : new.journal.records ≡ old.journal.records
  pub memory : memory_in new ≡ memory_in old

-- The event has no cause to be refused, and room was made for its step. Nothing that counts has changed.
pub record IsReady (old new : Machine) (event : Event) : Type 0 where
  pub has_no_cause : own_cause_in (setting_in old) (memory_in old) event ≡ None
  pub has_room : IsFull old.journal (payload_in (memory_in old) event) → ⊥
  pub room : new.journal.room ≡ Some (payload_in (memory_in old) event)
  pub same : IsSame old new

-- The event has no cause to be refused, and room was made for its step. Nothing that counts has changed but for the pipeline to
-- this host, whose parts are lost.
pub record HasFailed (old new : Machine) (host : ℕ) (event : Event) : Type 0 where
  pub has_no_cause : own_cause_in (setting_in old) (memory_in old) event ≡ None
  pub has_room : IsFull old.journal (payload_in (memory_in old) event) → ⊥
  pub room : new.journal.room ≡ Some (payload_in (memory_in old) event)
  pub setting : setting_in new ≡ setting_in old
  pub steps : new.journal.steps ≡ old.journal.steps
  pub records : new.journal.records ≡ old.journal.records
  pub memory : memory_in new ≡ record (memory_in old) { pipelines = with_pipeline failed_pipeline host (memory_in old).pipelines }

-- There is room for the step of an event, unless it hands out a reply.
abbrev pub FitsIn : Machine → Event → Type 0
FitsIn m (Handed conn) = Unit {0}
FitsIn m event = IsFull m.journal (payload_in (memory_in m) event) → ⊥

-- The refusal has its cause in what is kept.
abbrev pub HasCauseIn : Machine → Event → Refusal → Type 0
HasCauseIn m event refusal.NoMemory = (own_cause_in (setting_in m) (memory_in m) event ≡ None) × FitsIn m event
HasCauseIn m event refusal.JournalFull =
    (own_cause_in (setting_in m) (memory_in m) event ≡ None) × IsFull m.journal (payload_in (memory_in m) event)
HasCauseIn m event r = own_cause_in (setting_in m) (memory_in m) event ≡ Some r

-- All that the event comes to was done, but that its step was added, for which there is room: this is what is kept now.
pub record IsDone (old new : Machine) (event : Event) (done : Done) (kept : Memory) : Type 0 where
  pub has_no_cause : own_cause_in (setting_in old) (memory_in old) event ≡ None
  pub has_room : IsFull old.journal (payload_in (memory_in old) event) → ⊥
  pub room : new.journal.room ≡ Some done.bytes
  pub recorded : done.recorded ≡ done.answer
  pub bytes : done.bytes ≡ payload_in (memory_in old) event
  pub setting : setting_in new ≡ setting_in old
  pub steps : new.journal.steps ≡ old.journal.steps
  pub records : new.journal.records ≡ old.journal.records
  pub memory : memory_in new ≡ record kept { bytes = old.journal.bytes }
