-- What works that run at the same time answer.
use Rattle.std.specs.Prelude.{◌≡◌, ⊤, Result}
use Rattle.engine_work.specs.declared.error.EngineError.{EngineError}
use Rattle.engine_work.specs.declared.threads.Begun.{Begun}
use Rattle.engine_work.specs.declared.threads.Begun.TheVariants as begun
use Rattle.engine_work.specs.declared.threads.Settled.{Settled}
use Rattle.engine_work.specs.declared.threads.Settled.TheVariants as settled

-- what the run of a work answers
abbrev pub WorkResult : Type 0
WorkResult = Result ⊤ EngineError

-- where no thread runs the work, its call may be made
abbrev pub IsCallable : {Rt K F : Type 0} → (F → Type 0) → Begun Rt K F → Type 0
IsCallable pre (begun.There started) = ⊤
IsCallable pre (begun.Left call) = pre call

-- this work was begun: a thread runs it, or the call gives what it may answer
abbrev pub IsBegun : {Rt K F : Type 0} → (F → WorkResult → Type 0) → (K → WorkResult → Type 0) → K → Begun Rt K F → Type 0
IsBegun post may work (begun.There started) = started ≡ work
IsBegun post may work (begun.Left call) = (answer : WorkResult) → post call answer → may work answer

-- a thread runs this work, or it has answered
abbrev pub IsSettled : {Rt K : Type 0} → (K → WorkResult → Type 0) → K → Settled Rt K → Type 0
IsSettled may work (settled.There started) = started ≡ work
IsSettled may work (settled.Here answer) = may work answer

-- whatever work was begun is settled so
abbrev pub Settles : {Rt K F : Type 0} → (F → WorkResult → Type 0) → (K → WorkResult → Type 0) → Begun Rt K F → Settled Rt K → Type 0
Settles post may b s = (work : _) → IsBegun post may work b → IsSettled may work s

-- whatever work is settled so may give this answer
abbrev pub Answers : {Rt K : Type 0} → (K → WorkResult → Type 0) → Settled Rt K → WorkResult → Type 0
Answers may s answer = (work : _) → IsSettled may work s → may work answer

-- What makes the calls of works: each fresh work gets one.
pub record MakesCalls {K F G : Type 0} (is_fresh : K → Type 0) (may : K → WorkResult → Type 0) (make_pre : G → K → Type 0)
    (make_post : G → K → F → Type 0) (pre : F → Type 0) (post : F → WorkResult → Type 0) (make : G) : Type 0 where
  pub takes : (work : K) → is_fresh work → make_pre make work
  -- it may be made,
  pub callable : (work : K) (call : F) → is_fresh work → make_post make work call → pre call
  -- and answers as its work may
  pub answers : (work : K) (call : F) (answer : WorkResult) → make_post make work call → post call answer → may work answer
