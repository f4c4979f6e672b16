-- What the stage of a client says of its engine stays true.
use Rattle.std.proofs.Common.{◌≡◌, ◌⊎◌, ◌∙◌, ◌++◌, ℕ, Bool, List, [], ◌∷◌, Some, None, Result, Ok, Err, IfOk, IfErr, IfSome, ap, append-nil, inl, inr, refl, sym, true, false, unwrap_or}
use Rattle.std.proofs.lemmas.List.{append_cancel_left}
use Rattle.proxy_history.specs.History.{History, Step}
use Rattle.proxy_history.specs.declared.event.Event.{Event}
use Rattle.proxy_history.specs.declared.refusal.Refusal.{Refusal}
use Rattle.socket_halves.specs.WriteBuffer.{WriteBufferState, WritesOut, accepted}
use Rattle.proxy_engines.specs.Client.{Client}
use Rattle.proxy_engines.specs.Keeps.{KeepsSocket}
use Rattle.proxy_engines.specs.ClientSteps.{AcceptsOne, TellsStep}
use Rattle.proxy_engines.specs.OneTurn.{IsDueError}
use Rattle.proxy_engines.specs.Turns.{CoreTurnFacts, KeepsTurns}
use Rattle.proxy_engines.specs.declared.client.Progress.{Progress}
use Rattle.proxy_engines.specs.declared.client.Stage.{Stage}
use Rattle.proxy_engines.proofs.CallerLemmas as engines
use Rattle.engine_work.specs.EngineError.{IsTurnRefused}
use Rattle.engine_work.specs.declared.error.EngineError.{EngineError}
use Rattle.proxy_connections.specs.Sockets.{MayDrain}
use Rattle.proxy_connections.specs.Stages.{ComesTo, HasGoneOut, HasPassedAll, IsOver, IsOverAt, PassesOn, TellsClosed, TellsEnd, end_of}
use Rattle.proxy_connections.specs.declared.stage.EngineEnd.{EngineEnd}
use Rattle.proxy_connections.specs.declared.stage.SocketStage.{SocketStage}

-- STAGES

-- while a client is served nothing is said
pub over_served : (s : SocketStage) (e : Client) → s ≡ SocketStage.Served → IsOverAt s e
over_served s e served = λ end is. let none : None ≡ Some end = rw served at is in absurd cc

pub gone_served : (s : SocketStage) (e : Client) → s ≡ SocketStage.Served → HasGoneOut s e
gone_served s e served = λ is. let none : false ≡ true = rw served at is in absurd cc

over_end : (end other : EngineEnd) (e : Client) → IsOver end e → Some end ≡ Some other → IsOver other e
over_end end other e over is = let same : end ≡ other = ap (λ o. unwrap_or o end) is in rw (← same) over

-- its engine isn't stepped any more, for this
pub over_leaving : (end : EngineEnd) (e : Client) → IsOver end e → IsOverAt (SocketStage.Leaving end) e
over_leaving end e over = λ other is. over_end end other e over is

pub gone_leaving : (end : EngineEnd) (e : Client) → HasGoneOut (SocketStage.Leaving end) e
gone_leaving end e = λ is. absurd cc

pub over_lingering : (s : SocketStage) (end : EngineEnd) (until : ℕ) (e : Client) → end_of s ≡ Some end → IsOverAt s e → IsOverAt (SocketStage.Lingering end until) e
over_lingering s end until e is over = λ other same. over_end end other e (over end is) same

pub gone_lingering : (end : EngineEnd) (until : ℕ) (e : Client) → HasPassedAll e.outbox → HasGoneOut (SocketStage.Lingering end until) e
gone_lingering end until e passed = λ _. passed

-- where the stage and the engine are as they were
pub over_same : (s t : SocketStage) (old new : Client) → t ≡ s → new.stage ≡ old.stage → (old.is_drained ≡ true → new.is_drained ≡ true)
    → IsOverAt s old → IsOverAt t new
over_same s t old new same stage drained over = rw same (λ end is.
    let was = over end is in
    ((λ closed. rw stage (was.0 closed)), λ no_room. drained (was.1 no_room)))

pub gone_same : (s t : SocketStage) (old new : Client) → t ≡ s → (HasPassedAll old.outbox → HasPassedAll new.outbox)
    → HasGoneOut s old → HasGoneOut t new
gone_same s t old new same passed gone = rw same (λ is. passed (gone is))

-- ENGINES

-- what has passed on changes nothing of what an engine keeps
pub KeepsSocket-passes_on : (old new : Client) (H : History) → PassesOn old new → KeepsSocket old new H H
KeepsSocket-passes_on old new H passes = rw passes (engines.KeepsSocket-passes old new.outbox.passed H)

stage_stays : (old new : Client) → MayDrain old new → new.stage ≡ old.stage
stage_stays old new (inl same) = rw same refl
stage_stays old new (inr drained) = rw drained refl

-- an engine comes to the end that a step's answer tells
pub comes_to : (due : EngineError → Type 0) (result : Result Progress EngineError) (old new : Client) (end : EngineEnd)
    → TellsClosed old result → IfErr result due → new.stage ≡ old.stage → (end ≡ EngineEnd.NoRoom → new.is_drained ≡ true)
    → TellsEnd result end → ComesTo due new end
comes_to due result old new EngineEnd.Closed closed is_due stage drained (inl is) = rw stage ((rw is at closed.ended) (inl refl))
comes_to due result old new EngineEnd.Closed closed is_due stage drained (inr (inl is)) = rw stage ((rw is at closed.ended) (inr refl))
comes_to due result old new EngineEnd.Closed closed is_due stage drained (inr (inr (inl is))) = rw stage ((rw is at closed.failed) (inl refl))
comes_to due result old new EngineEnd.Closed closed is_due stage drained (inr (inr (inr is))) = rw stage ((rw is at closed.failed) (inr refl))
comes_to due result old new EngineEnd.NoRoom closed is_due stage drained is = (drained refl, rw is at is_due)
comes_to due result old new EngineEnd.Refused closed is_due stage drained (denied, is, meaningless) = (denied, meaningless, rw is at is_due)

-- the same, for any end that its stage has
pub left_comes : (due : EngineError → Type 0) (result : Result Progress EngineError) (old new : Client) (s : SocketStage)
    → TellsClosed old result → IfErr result due → MayDrain old new → IsOverAt s new
    → IfSome (end_of s) (TellsEnd result) → IfSome (end_of s) (ComesTo due new)
left_comes due result old new SocketStage.Served closed is_due drains over tells = tt
left_comes due result old new (SocketStage.Leaving end) closed is_due drains over tells =
    comes_to due result old new end closed is_due (stage_stays old new drains) ((over end refl).1) tells
left_comes due result old new (SocketStage.Lingering end until) closed is_due drains over tells =
    comes_to due result old new end closed is_due (stage_stays old new drains) ((over end refl).1) tells

-- STEPS

-- what a step answers of a closed connection
pub told_closed : (cause : Refusal → Event → List Step → Type 0) (x y : List Step) (old new : Client) (result : Result Progress EngineError)
    → TellsStep cause x y old new result → IfOk result (λ p. p ≡ Progress.Cut → new.stage ≡ Stage.Closed true) → TellsClosed new result
told_closed cause x y old new (Ok p) tells cut = record {
  ended = λ told. elim told [ inl is ↦ rw (tells.ended is) refl | inr is ↦ rw (cut is) refl ];
  failed = tt;
}
told_closed cause x y old new (Err e) tells cut = record {
  ended = tt;
  failed = λ told. elim told [ inl is ↦ rw ((tells.read_failed is).1) refl | inr is ↦ rw ((tells.write_failed is).1) refl ];
}

-- no command is accepted of a closed connection, and then no device fails
pub accepted_closed : (cause : Refusal → Event → List Step → Type 0) (x y : List Step) (old new : Client) (result : Result Progress EngineError)
    → AcceptsOne cause x y old new result → TellsClosed new result
accepted_closed cause x y old new (Ok p) accepts = record { ended = λ told. absurd (neither p accepts.ok told); failed = tt }
  where
    neither : (p : Progress) → (p ≡ Progress.Moved) ⊎ (p ≡ Progress.Idle) → (p ≡ Progress.Ended) ⊎ (p ≡ Progress.Cut) → ⊥
    neither p (inl is) (inl other) = absurd cc
    neither p (inl is) (inr other) = absurd cc
    neither p (inr is) (inl other) = absurd cc
    neither p (inr is) (inr other) = absurd cc
accepted_closed cause x y old new (Err e) accepts = record { ended = tt; failed = λ told. absurd (neither e accepts.err told) }
  where
    neither : (e : EngineError) → (e ≡ EngineError.NoMemory) ⊎ IsTurnRefused e → (e ≡ EngineError.ReadFailed) ⊎ (e ≡ EngineError.WriteFailed) → ⊥
    neither e (inl is) (inl other) = absurd cc
    neither e (inl is) (inr other) = absurd cc
    neither e (inr (denied, is)) (inl other) = absurd cc
    neither e (inr (denied, is)) (inr other) = absurd cc

-- an error that was due by the setting before is due by the setting behind, which is the same
pub due_after : {Home Setting : Type 0} → (cause : Setting → Refusal → Event → List Step → Type 0) (before after : CoreTurnFacts Home Setting) (result : Result Progress EngineError)
    → KeepsTurns before after → IfErr result (IsDueError (cause before.setting) after.seen) → IfErr result (IsDueError (cause after.setting) after.seen)
due_after cause before after result keeps due = rw keeps.setting_is due

-- WRITERS

append_none : (xs ys : List ℕ) → xs ++ ys ≡ [] → ys ≡ []
append_none [] ys none = none
append_none (x ∷ xs) ys none = absurd cc

-- where all has passed, and what was buffered goes out, all has passed
pub passed_still : (old new : WriteBufferState) → WritesOut old new → (old.is_broken ≡ false → old.taken ≡ accepted old)
    → new.is_broken ≡ false → new.taken ≡ accepted new
passed_still old new out passed whole = still old.is_broken refl
  where
    all : old.is_broken ≡ false → new.taken ≡ accepted new
    all was =
        let none : old.buffered ≡ [] = append_cancel_left old.taken old.buffered [] (sym (passed was) ∙ sym (append-nil old.taken)) in
        let gone : out.goes_out.gave ++ new.buffered ≡ [] = rw none at out.goes_out.left in
        rw (append_none out.goes_out.gave new.buffered gone) (sym (append-nil new.taken))

    still : (b : Bool) → old.is_broken ≡ b → new.taken ≡ accepted new
    still true was = let same = out.broken was in absurd cc
    still false was = all was
