-- A table of pipes, by the pipe of one host.
use Rattle.std.proofs.Common.{◌≡◌, ◌≢◌, ℕ, zero, suc, ◌<◌, List, [], ◌∷◌, map, get_or, slice_set, length, refl, sym, ap, ◌∙◌, arith}
use Rattle.std.specs.Prelude.{slice_index_or}
use Rattle.std.proofs.lemmas.List.{length-map}
use Rattle.list_lemmas.proofs.CallerLemmas.{map-slice_set, map-slice_set-same}
use Rattle.upstream_pipe.specs.Pipe.{PipeState}
use Rattle.proxy_core.specs.Pipelines.{PipelineState, PipelineTable, state_of, room_of, table_of, pipeline_at, with_pipeline}

-- ONE OF THEM

-- its state
pub state_at : (ps : List PipeState) (h : ℕ) (p d : PipeState) → h < length ps → p ≡ get_or ps h d → pipeline_at h (map state_of ps) ≡ state_of p
state_at [] h p d l e = absurd (omega (arith, l))
state_at (x ∷ xs) zero p d l e = ap state_of (sym e)
state_at (x ∷ xs) (suc h) p d l e = state_at xs h p d (omega (arith, l)) e

-- its room
pub room_at : (ps : List PipeState) (h : ℕ) (p d : PipeState) → h < length ps → p ≡ get_or ps h d → get_or (map room_of ps) h 0 ≡ p.room
room_at [] h p d l e = absurd (omega (arith, l))
room_at (x ∷ xs) zero p d l e = ap room_of (sym e)
room_at (x ∷ xs) (suc h) p d l e = room_at xs h p d (omega (arith, l)) e

-- ONE OF THEM CHANGED

-- the states
pub states_changed : (change : PipelineState → PipelineState) (ps : List PipeState) (h : ℕ) (p q d : PipeState) → p ≡ get_or ps h d → state_of q ≡ change (state_of p)
    → map state_of (slice_set ps h q) ≡ with_pipeline change h (map state_of ps)
states_changed change ps h p q d e f = map-slice_set state_of change h ps q d (f ∙ ap (λ r. change (state_of r)) e)

-- the states, where the new one is in the state of the old
pub states_same : (ps : List PipeState) (h : ℕ) (p q d : PipeState) → p ≡ get_or ps h d → state_of q ≡ state_of p → map state_of (slice_set ps h q) ≡ map state_of ps
states_same ps h p q d e f = map-slice_set-same state_of h ps q d (f ∙ ap state_of e)

-- its room
pub room_changed : (ps : List PipeState) (h : ℕ) (q : PipeState) → h < length ps → get_or (map room_of (slice_set ps h q)) h 0 ≡ q.room
room_changed [] h q l = absurd (omega (arith, l))
room_changed (x ∷ xs) zero q l = refl
room_changed (x ∷ xs) (suc h) q l = room_changed xs h q (omega (arith, l))

-- the room of another
pub room_of_other : (ps : List PipeState) (h k : ℕ) (q : PipeState) → k ≢ h → get_or (map room_of (slice_set ps h q)) k 0 ≡ get_or (map room_of ps) k 0
room_of_other [] h k q n = refl
room_of_other (x ∷ xs) zero zero q n = absurd (n refl)
room_of_other (x ∷ xs) zero (suc k) q n = refl
room_of_other (x ∷ xs) (suc h) zero q n = refl
room_of_other (x ∷ xs) (suc h) (suc k) q n = room_of_other xs h k q (λ e. n (ap suc e))

-- AS THE TABLE SHOWS IT

-- as many hosts as pipes
pub length-table : (ps : List PipeState) (t : PipelineTable) → table_of ps ≡ t → length ps ≡ length t.states
length-table ps t e = sym (length-map ps state_of) ∙ ap (λ (z : PipelineTable). length z.states) e

-- the state of one of them
pub state_shown : (ps : List PipeState) (t : PipelineTable) (h : ℕ) (p : PipeState) → table_of ps ≡ t → h < length t.states → p ≡ slice_index_or ps h p
    → state_of p ≡ pipeline_at h t.states
state_shown ps t h p e l f =
    sym (state_at ps h p p (omega (arith, l, length-table ps t e)) f) ∙ ap (λ (z : PipelineTable). pipeline_at h z.states) e

-- its room
pub room_shown : (ps : List PipeState) (t : PipelineTable) (h : ℕ) (p : PipeState) → table_of ps ≡ t → h < length t.states → p ≡ slice_index_or ps h p
    → p.room ≡ get_or t.room h 0
room_shown ps t h p e l f =
    sym (room_at ps h p p (omega (arith, l, length-table ps t e)) f) ∙ ap (λ (z : PipelineTable). get_or z.room h 0) e
