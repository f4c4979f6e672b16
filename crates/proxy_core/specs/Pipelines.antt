-- What a history determines of the pipelines to its hosts, and how an event changes it.
use Rattle.std.specs.Prelude.{ℕ, ◌+◌, ◌<◌, ◌≤◌, get_or, if◌then◌else◌, Option, Some, None, List, [], ◌∷◌, ◌++◌, map, drop, filter, filter_map, length, is_none, unwrap_or, slice_get}
use Rattle.std.specs.List.{range_with_len}
use Rattle.list_lemmas.specs.Lists.{changed_at}
use Rattle.upstream_pipe.specs.declared.part.Owner.{Owner}
use Rattle.upstream_pipe.specs.declared.part.Part.{Part as PipePart}
use Rattle.upstream_pipe.specs.Pipe.{PipeState, owner_in, is_kept, forgotten_owner}
use Rattle.proxy_history.specs.Setting.{Setting, hosts}
use Rattle.proxy_history.specs.History.{epoch, is_closed}
use Rattle.proxy_history.specs.Replies.{replies_from}
use Rattle.proxy_history.specs.Part.{Part, Past}
use Rattle.proxy_history.specs.Waiting.{waiting_parts, sent_to}

-- What waits, whose replies are to come, the epoch, and how many parts were taken in it.
pub record PipelineState : Type 0 where
  pub waiting : List PipePart
  pub flying : List (Option Owner)
  pub epoch : ℕ
  pub taken : ℕ

-- the state of a pipe: all that contracts see of it but its room
abbrev pub state_of : PipeState → PipelineState
state_of p = record { waiting = p.waiting; flying = p.flying; epoch = p.epoch; taken = p.taken }

-- OF A HISTORY

-- whose a part is
abbrev pub owner_of_part : Part → Owner
owner_of_part p = record { conn = p.conn; command = p.command; part = p.number }

-- a part on its way to a host
abbrev pub pipe_part : Part → PipePart
pipe_part p = record { owner = owner_of_part p; text = p.text }

-- the place of a part that was sent, without an owner where its connection is closed
abbrev pub place_of : Past → Part → Option Owner
place_of x p = if is_closed p.conn x.steps then None else Some (owner_of_part p)

-- what is kept of a host, by its past
abbrev pub pipeline_of : Past → ℕ → PipelineState
pipeline_of x h = let e = epoch h x.steps in record {
  waiting = map pipe_part (waiting_parts h x);
  flying = map (place_of x) (drop (length (replies_from h e x.steps)) (sent_to h e x));
  epoch = e;
  taken = length (sent_to h e x);
}

-- what is kept of all hosts, by their past
abbrev pub pipelines_of : Setting → Past → List PipelineState
pipelines_of S x = map (pipeline_of x) (range_with_len 0 (hosts S))

-- CHANGES

-- the pipeline of this host changed
abbrev pub with_pipeline : (PipelineState → PipelineState) → ℕ → List PipelineState → List PipelineState
with_pipeline change h pipelines = changed_at change h pipelines

-- one part more waits
abbrev pub with_waiting : PipePart → PipelineState → PipelineState
with_waiting part q = record q { waiting = q.waiting ++ part ∷ [] }

-- a part that was placed waits for its host, if it has one and got no value at once
abbrev pub pushed_to : Option ℕ → Part → List PipelineState → List PipelineState
pushed_to None p pipelines = pipelines
pushed_to (Some h) p pipelines = with_pipeline (with_waiting (pipe_part p)) h pipelines

-- the pipelines with a part that waits
abbrev pub pushed_part : Part → List PipelineState → List PipelineState
pushed_part p pipelines = if is_none p.local then pushed_to p.host p pipelines else pipelines

-- the pipelines with some parts that wait
abbrev pub pushed_parts : List Part → List PipelineState → List PipelineState
pushed_parts [] pipelines = pipelines
pushed_parts (p ∷ ps) pipelines = pushed_parts ps (pushed_part p pipelines)

-- the oldest part that waits flies
abbrev pub flying_of : List PipePart → List (Option Owner)
flying_of [] = []
flying_of (p ∷ ps) = Some p.owner ∷ []

-- a pipeline whose oldest part is sent
abbrev pub taken_from : PipelineState → PipelineState
taken_from p = record {
  waiting = drop 1 p.waiting;
  flying = p.flying ++ flying_of p.waiting;
  epoch = p.epoch;
  taken = p.taken + 1;
}

-- the oldest that flies has its reply
abbrev pub answered_by : PipelineState → PipelineState
answered_by p = record p { flying = drop 1 p.flying }

-- whose reply comes next, if one is to come and its connection is open
abbrev pub next_owner : List (Option Owner) → List Owner
next_owner [] = []
next_owner (None ∷ places) = []
next_owner (Some o ∷ places) = o ∷ []

-- the connection whose reply comes next, if one is to come and it is open
abbrev pub next_connection : List (Option Owner) → Option ℕ
next_connection [] = None
next_connection (None ∷ places) = None
next_connection (Some o ∷ places) = Some o.conn

-- all are lost
abbrev pub failed_pipeline : PipelineState → PipelineState
failed_pipeline p = record { waiting = []; flying = []; epoch = p.epoch + 1; taken = 0 }

-- the owners of those that are lost: those that flew, and those that waited
abbrev pub lost_owners : PipelineState → List Owner
lost_owners p = filter_map (λ o. o) p.flying ++ map owner_in p.waiting

-- a connection is closed
abbrev pub without_connection : ℕ → PipelineState → PipelineState
without_connection c p = record p { waiting = filter (is_kept c) p.waiting; flying = map (forgotten_owner c) p.flying }

-- OF ONE

-- a pipeline to which nothing has happened
abbrev pub no_pipeline : PipelineState
no_pipeline = record { waiting = []; flying = []; epoch = 0; taken = 0 }

-- the pipeline of a host
abbrev pub pipeline_at : ℕ → List PipelineState → PipelineState
pipeline_at h pipelines = unwrap_or (slice_get pipelines h) no_pipeline

-- the text of the oldest part
abbrev pub text_of_oldest : List PipePart → List ℕ
text_of_oldest [] = []
text_of_oldest (p ∷ ps) = p.text

-- THE TABLE

-- the states of the pipes by the numbers of their hosts, and for how many more parts each has room
pub record PipelineTable : Type 0 where
  pub states : List PipelineState
  pub room : List ℕ

-- for how many more parts a pipe has room
abbrev pub room_of : PipeState → ℕ
room_of p = p.room

-- the table that some pipes are
abbrev pub table_of : List PipeState → PipelineTable
table_of ps = record { states = map state_of ps; room = map room_of ps }

-- the first so many hosts have room for as many parts more as are counted for them
abbrev pub HasRooms : List ℕ → ℕ → PipelineTable → Type 0
HasRooms counts n table = (h : ℕ) → h < n → get_or counts h 0 ≤ get_or table.room h 0
