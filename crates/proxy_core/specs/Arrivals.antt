-- Where the parts of a command go as it arrives.
use Rattle.std.specs.Prelude.{◌≡◌, ◌<◌, ◌≤◌, ◌+◌, ◌^◌, ℕ, Bool, true, false, Some, None, List, [], ◌∷◌, length, map, count_by, get_or}
use Rattle.resp_core.specs.Tree.{Tree}
use Rattle.ejector.specs.Ejection.{state}
use Rattle.splitter.specs.declared.plans.Local.{Local}
use Rattle.splitter.specs.declared.plans.PartPlan.{PartPlan}
use Rattle.splitter.specs.Plan.{Plan, here, leave, parts, is_last}
use Rattle.splitter.specs.Join.{MayJoin}
use Rattle.journal_core.specs.Journal.{IsFull}
use Rattle.upstream_pipe.specs.declared.part.Part.{Part as PipePart}
use Rattle.proxy_history.specs.Setting.{Setting, hosts, max_waiting}
use Rattle.proxy_history.specs.History.{accepted_count}
use Rattle.proxy_history.specs.Part.{Past}
use Rattle.proxy_history.specs.Waiting.{waiting_parts}
use Rattle.proxy_history.specs.Arrival.{parts_placed, placed_by}
use Rattle.proxy_history.specs.Answer.{accepts, local_of}
use Rattle.proxy_history.specs.declared.event.Event.{Event}
use Rattle.proxy_history.specs.declared.answer.Answer.{Answer}
use Rattle.proxy_history.specs.declared.answer.Answer.TheVariants as answer
use Rattle.proxy_core.specs.Places.{AreCounted, count_at, placed_as, is_without_host, is_too_many, value_of_placed}
use Rattle.proxy_core.specs.Pipelines.{PipelineState, PipelineTable, with_waiting, with_pipeline, pushed_parts, pipeline_at}
use Rattle.proxy_core.specs.Connections.{with_connection, connection_with_command, arrived_command, connection_at, next_index}
use Rattle.splitter.specs.declared.plans.Join.{Join}
use Rattle.proxy_core.specs.Memory.{Memory}
use Rattle.proxy_core.specs.Machine.{setting_in, memory_in, own_cause_in, payload_in}
use Rattle.proxy_core.specs.declared.machine.Machine.{Machine}
use Rattle.proxy_core.specs.declared.state.connection.Connection.{Connection}
use Rattle.proxy_core.specs.declared.state.place.Place.{Place}
use Rattle.proxy_core.specs.declared.state.place.Place.TheVariants.{Waits, NoHost, Busy}
use Rattle.proxy_core.specs.declared.state.place.Placed.{Placed}
use Rattle.proxy_core.specs.declared.state.place.Accepted.{Accepted}

-- what is kept tells of a past what decides where the parts of a connection's next command go
pub record Tells (S : Setting) (m : Memory) (conn : ℕ) (x : Past) : Type 0 where
  pub state_is : m.hosts ≡ state S.rules S.opening x.marks
  pub waiting_are : (h : ℕ) → h < hosts S → length (pipeline_at h m.pipelines).waiting ≡ length (waiting_parts h x)
  pub index_is : (k : Connection) → connection_at conn m.connections ≡ Some k → k.queue.popped + length k.queue.commands ≡ accepted_count conn x.steps

-- The parts of a command's list are placed in their order, by what is kept, and for each host it is counted how many are to wait
-- there.
pub record ArePlaced (m : Machine) (list : List PartPlan) (counts : List ℕ) (ps : List Placed) : Type 0 where
  pub placed : (x : Past) (conn command : ℕ) → Tells (setting_in m) (memory_in m) conn x
      → ps ≡ map placed_as (parts_placed (setting_in m) x conn command [] list)
  pub counted : AreCounted (memory_in m).pipelines counts ps
  pub parts : length ps ≡ length list

-- PUSHES

-- a placed part as a pipe has it
abbrev pub piped_as : ℕ → ℕ → Placed → PipePart
piped_as conn command p = record { owner = record { conn = conn; command = command; part = p.number }; text = p.text }

-- a part waits, if it is to
abbrev pub pushed_at : Place → PipePart → List PipelineState → List PipelineState
pushed_at (Waits h) part pipelines = with_pipeline (with_waiting part) h pipelines
pushed_at NoHost part pipelines = pipelines
pushed_at Busy part pipelines = pipelines

-- the pipelines with the placed parts that wait
abbrev pub pushed_all : ℕ → ℕ → List Placed → List PipelineState → List PipelineState
pushed_all conn command [] pipelines = pipelines
pushed_all conn command (p ∷ ps) pipelines = pushed_all conn command ps (pushed_at p.place (piped_as conn command p) pipelines)

-- each pipe has room for the parts that are to wait on it, and with them no more wait than may
pub record HaveRoom (placed : List Placed) (table : PipelineTable) : Type 0 where
  pub within : (h : ℕ) → 0 < count_at h placed → h < length table.states
  pub room : (h : ℕ) → h < length table.states → count_at h placed ≤ get_or table.room h 0
  pub limit : (h : ℕ) → 0 < count_at h placed → length (pipeline_at h table.states).waiting + count_at h placed ≤ max_waiting

-- a part may wait where it is to: there is room for it
abbrev pub MayWait : Place → PipelineTable → Type 0
MayWait (Waits h) table =
    (h < length table.states) × (0 < get_or table.room h 0) × (length (pipeline_at h table.states).waiting < max_waiting)
MayWait NoHost table = Unit {0}
MayWait Busy table = Unit {0}

-- ACCEPTING

-- the answer that an accepted command is
abbrev pub answer_of : Accepted → Answer
answer_of a = answer.Accepted a.index a.local a.parts a.no_host a.busy

-- what is answered to a command of these placed parts
abbrev pub counted_as : ℕ → List Placed → Accepted
counted_as index placed = record {
  index = index;
  local = None;
  parts = length placed;
  no_host = count_by (λ (p : Placed). is_without_host p.place) placed;
  busy = count_by (λ (p : Placed). is_too_many p.place) placed;
}

-- a plan of the proxy's own answer
abbrev pub own_plan : Bool → Local → Tree → Plan
own_plan true name value = leave name value
own_plan false name value = here name value

-- the values of a plan's parts may be joined, and the parts be numbered
abbrev pub MayJoinAll : Plan → Type 0
MayJoinAll (here name value) = Unit {0}
MayJoinAll (leave name value) = Unit {0}
MayJoinAll (parts how list) = MayJoin how (length list) × (length list < 2 ^ 32)

-- what is kept once a command of this plan is accepted
abbrev pub with_arrival : Machine → ℕ → Plan → Past → Memory
with_arrival m conn plan x =
    let placed = placed_by (setting_in m) x conn plan in
    record (memory_in m) {
      connections = with_connection (connection_with_command (arrived_command plan placed) (is_last plan)) conn m.connections.numbered;
      pipelines = pushed_parts placed (memory_in m).pipelines;
    }

-- The command is accepted, and this is what is answered.
pub record IsAccepted (old new : Machine) (conn : ℕ) (plan : Plan) (x : Past) (a : Accepted) : Type 0 where
  pub answer_is : answer_of a ≡ accepts (accepted_count conn x.steps) (local_of plan) (placed_by (setting_in old) x conn plan)
  pub setting : setting_in new ≡ setting_in old
  pub steps : new.journal.steps ≡ old.journal.steps
  pub records : new.journal.records ≡ old.journal.records
  pub memory : memory_in new ≡ with_arrival old conn plan x

-- A command of these placed parts is accepted, and this is what is answered. There is room for the parts that are to wait,
-- which don't yet.
pub record HasAccepted (old new : Machine) (conn : ℕ) (how : Join) (placed : List Placed) (a : Accepted) : Type 0 where
  pub answer_is : a ≡ counted_as (next_index (connection_at conn old.connections.numbered)) placed
  pub connections : new.connections.numbered
      ≡ with_connection (connection_with_command (record { how = how; values = map value_of_placed placed }) false) conn old.connections.numbered
  pub closed : new.connections.closed ≡ old.connections.closed
  pub waiting : new.pipelines.states ≡ old.pipelines.states
  pub room : HaveRoom placed new.pipelines
  pub setting : setting_in new ≡ setting_in old
  pub steps : new.journal.steps ≡ old.journal.steps
  pub records : new.journal.records ≡ old.journal.records
  pub bytes : new.journal.bytes ≡ old.journal.bytes
  pub hosts : new.ejector.state ≡ old.ejector.state

-- The event has no cause to be refused, and room was made for its step.
pub record HasRoomFor (old new : Machine) (event : Event) : Type 0 where
  pub has_no_cause : own_cause_in (setting_in old) (memory_in old) event ≡ None
  pub has_room : IsFull old.journal (payload_in (memory_in old) event) → ⊥
  pub room : new.journal.room ≡ Some (payload_in (memory_in old) event)
