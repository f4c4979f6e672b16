-- What each call of a pipe makes of its state.
use Rattle.std.proofs.Common.{◌≡◌, ◌<◌, ◌+◌, ◌-◌, ◌^◌, ℕ, List, [], ◌∷◌, ◌++◌, Option, Some, None, Result, Ok, Err, IfSome, IfNone, OnOk, map, min, filter, drop, slice_get, sym, ap, ◌∙◌, arith}
use Rattle.upstream_pipe.specs.declared.part.Owner.{Owner}
use Rattle.upstream_pipe.specs.declared.part.Part.{Part}
use Rattle.upstream_pipe.specs.Pipe.{PipeState, IsAsBefore, is_kept, forgotten_owner}
use Rattle.proxy_core.specs.Pipelines.{state_of, no_pipeline, with_waiting, flying_of, taken_from, answered_by, failed_pipeline, without_connection}
use Rattle.proxy_core.proofs.pipelines.UnchangedPipeline.{same_pipeline}

-- a new pipe
pub state_of-new : (p : PipeState) → p.waiting ≡ [] → p.flying ≡ [] → p.epoch ≡ 0 → p.taken ≡ 0 → state_of p ≡ no_pipeline
state_of-new p w f e t = same_pipeline (state_of p) no_pipeline w f e t

-- room is made
pub state_of-room : (p q : PipeState) → q.waiting ≡ p.waiting → q.flying ≡ p.flying → q.epoch ≡ p.epoch → q.taken ≡ p.taken → state_of q ≡ state_of p
state_of-room p q w f e t = same_pipeline (state_of q) (state_of p) w f e t

-- one part more waits
pub state_of-push : (p q : PipeState) (part : Part) → q.waiting ≡ p.waiting ++ part ∷ [] → q.flying ≡ p.flying → q.epoch ≡ p.epoch → q.taken ≡ p.taken
    → state_of q ≡ with_waiting part (state_of p)
state_of-push p q part w f e t = same_pipeline (state_of q) (with_waiting part (state_of p)) w f e t

-- the oldest part that waits flies
pub state_of-take : (r : Option Part) (p q : PipeState) → IfSome r (λ part. p.waiting ≡ part ∷ q.waiting)
    → IfSome r (λ part. q.flying ≡ p.flying ++ Some part.owner ∷ []) → q.epoch ≡ p.epoch
    → IfSome r (λ part. q.taken ≡ min (p.taken + 1) (2 ^ 64 - 1)) → p.taken + 1 < 2 ^ 64 → IfSome r (λ part. state_of q ≡ taken_from (state_of p))
state_of-take None p q w f e t few = tt
state_of-take (Some part) p q w f e t few =
    same_pipeline (state_of q) (taken_from (state_of p)) (ap (drop 1) (sym w)) (f ∙ ap (λ ps. p.flying ++ flying_of ps) (sym w)) e (omega (arith, t, few))

-- and is returned
pub oldest-take : (r : Option Part) (p q : PipeState) → IfNone r ((p.waiting ≡ []) × IsAsBefore p q) → IfSome r (λ part. p.waiting ≡ part ∷ q.waiting)
    → r ≡ slice_get p.waiting 0
oldest-take None p q none some = ap (λ (ps : List Part). slice_get ps 0) (sym none.0)
oldest-take (Some part) p q none some = ap (λ (ps : List Part). slice_get ps 0) (sym some)

-- where none waits nothing changes
pub same-take : (r : Option Part) (p q : PipeState) (Q : Type 0) → IfNone r ((p.waiting ≡ []) × IsAsBefore p q) → (state_of q ≡ state_of p → Q) → IfNone r Q
same-take None p q Q none f = f (ap state_of none.1)
same-take (Some part) p q Q none f = tt

-- the oldest that flies has its reply
pub state_of-answered : (p q : PipeState) (owner : Option Owner) → q.waiting ≡ p.waiting → p.flying ≡ owner ∷ q.flying → q.epoch ≡ p.epoch → q.taken ≡ p.taken
    → state_of q ≡ answered_by (state_of p)
state_of-answered p q owner w f e t = same_pipeline (state_of q) (answered_by (state_of p)) w (ap (drop 1) (sym f)) e t

-- all are lost
pub state_of-fault : {T E : Type 0} (r : Result T E) (p q : PipeState) → OnOk r ((q.flying ≡ []) × (q.waiting ≡ [])) → OnOk r (q.epoch ≡ p.epoch + 1)
    → OnOk r (q.taken ≡ 0) → OnOk r (state_of q ≡ failed_pipeline (state_of p))
state_of-fault (Ok x) p q none e t = same_pipeline (state_of q) (failed_pipeline (state_of p)) none.1 none.0 e t
state_of-fault (Err x) p q none e t = tt

-- a connection is forgotten
pub state_of-forget : (p q : PipeState) (conn : ℕ) → q.waiting ≡ filter (is_kept conn) p.waiting → q.flying ≡ map (forgotten_owner conn) p.flying
    → q.epoch ≡ p.epoch → q.taken ≡ p.taken → state_of q ≡ without_connection conn (state_of p)
state_of-forget p q conn w f e t = same_pipeline (state_of q) (without_connection conn (state_of p)) w f e t
