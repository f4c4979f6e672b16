-- What a step of a host's engine does, put together.
use Rattle.std.proofs.Common.{◌≡◌, ◌∙◌, arith, ℕ, Bool, true, List, ◌∷◌, Option, Some, None, Result, Ok, Err, ◌⊎◌, ◌≢◌, [], length, ◌==◌, ap, sym, refl, inl, inr}
use Rattle.std.proofs.lemmas.Result.{err_from_is_err_and}
use Rattle.std.specs.Prelude.{IfSome, IfOk, OnOk, ◌↔◌, false}
use Rattle.proxy_history.specs.History.{History, Step}
use Rattle.proxy_history.specs.declared.event.Kind.{Kind}
use Rattle.proxy_engines.specs.Host.{HostMove, HostOutboxState, LinkState, GoesOn, next_link}
use Rattle.proxy_engines.specs.HostStep.{HostCall, HostState, IsAnswered, IsCausedBetween, IsCausedOn, IsUnasked, Records, WorksHost, StepsHost, TellsFault, answer_of, after_fault, move_of}
use Rattle.std.proofs.lemmas.Bool.{ne_eqb}
use Rattle.ticket_gate.specs.Journal.{StartsWith}
use Rattle.resp_core.specs.declared.value.Value.{Value}
use Rattle.proxy_history.specs.declared.event.Event.{Event}
use Rattle.proxy_engines.specs.Faults.{IsCauseOf, IsLate, IsLateOn}
use Rattle.proxy_engines.proofs.FaultLemmas.{cause_later, from_to, not_late-anew}
use Rattle.proxy_engines.proofs.AnswerLemmas.{if_ok, on_ok}
use Rattle.proxy_engines.proofs.HostMoves.{starts_then}
use Rattle.proxy_engines.specs.declared.client.Progress.{Progress}
use Rattle.engine_work.specs.declared.error.EngineError.{EngineError}

-- a call of an engine
abbrev pub calls : HostState → HostState → History → History → ℕ → HostCall
calls old new H H' m = record { old = old; new = new; before = H; after = H'; moment = m }

-- moves, and no fault; a fault that is left to the next step; or one that is recorded
module _ (U : HostOutboxState → LinkState → Type 0) where
  pub works_on : (old new : HostState) (H H' : History) (m : ℕ) (moved : Bool) (result : Result Progress EngineError) → GoesOn (move_of (calls old new H H' m)) moved → IsAnswered moved result → new.fault ≡ None → WorksHost U (calls old new H H' m) result
  works_on old new H H' m moved result goes told none = record { last = new; between = H'; moved = moved; goes = goes; ends = inl (refl, refl, refl, told, rw none tt) }

  pub works_left : (old last new : HostState) (kind : Kind) (error : Option EngineError) (H I J : History) (m : ℕ) (moved : Bool) (result : Result Progress EngineError) → GoesOn (move_of (calls old last H I m)) moved → new.outbox ≡ last.outbox → new.link ≡ last.link → new.fault ≡ Some kind → J ≡ I → IsAnswered moved result → IsCausedOn U (move_of (calls old last H I m)) kind error → WorksHost U (calls old new H J m) result
  works_left old last new kind error H I J m moved result goes outbox link fault same told cause = record { last = last; between = I; moved = moved; goes = goes; ends = inl (outbox, link, same, told, rw fault (error, cause)) }

  -- a fault was recorded and told, or is left to the next step
  pub works_told : (old last new : HostState) (kind : Kind) (error : Option EngineError) (H I J : History) (m : ℕ) (moved : Bool) (result : Result Progress EngineError) → GoesOn (move_of (calls old last H I m)) moved → TellsFault (calls last new I J m) kind error result → IsCausedOn U (move_of (calls old last H I m)) kind error → WorksHost U (calls old new H J m) result
  works_told old last new kind error H I J m moved result goes (inl (records, is)) cause = record { last = last; between = I; moved = moved; goes = goes; ends = inr (kind, error, records, cause, is) }
  works_told old last new kind error H I J m moved result goes (inr (kept, same, refused)) cause =
      let (_, is, (_, turn)) = err_from_is_err_and result refused in
      works_left old last new kind error H I J m moved result goes (ap (λ (z : HostState). z.outbox) kept) (ap (λ (z : HostState). z.link) kept) (ap (λ (z : HostState). z.fault) kept) same (rw (is, turn) tt) cause

-- what is said of a link that stays, where none does
pub no_link : (P : LinkState → LinkState → Type 0) (j k : Option LinkState) → k ≡ None → IfSome j (λ x. IfSome k (P x))
no_link P None k none = tt
no_link P (Some x) k none = rw none tt

-- what holds where a fault was recorded and told
module _ (old new : HostState) (H I : History) (kind : Kind) (m : ℕ) where
  told_ok : (error : Option EngineError) (result : Result Progress EngineError) → TellsFault (calls old new H I m) kind error result
      → IfOk result (λ p. (p ≡ Progress.Moved) × (new.link ≡ None) × (new.fault ≡ None) × (new.outbox ≡ next_link old.outbox))
  told_ok None result (inl (records, is)) = rw is (refl, records.fails.link, records.fault, records.fails.outbox)
  told_ok (Some e) result (inl (records, is)) = rw is tt
  told_ok error result (inr (_, _, refused)) = let (_, is, _) = err_from_is_err_and result refused in rw is tt

  pub told_needs : (error : Option EngineError) (result : Result Progress EngineError) → TellsFault (calls old new H I m) kind error result
      → IfOk result (λ p. (p ≡ Progress.NeedsLink) ↔ ((new.link ≡ None) × (new.outbox.pending ≢ [])))
  told_needs error result told =
      if_ok _ _ result (λ p (moved, _, _, outbox). ((λ needs. absurd cc), (λ both. absurd (both.1 (ap (λ (l : HostOutboxState). l.pending) outbox))))) (told_ok error result told)

  pub told_answered : (A : Type 0) (P : LinkState → LinkState → Type 0) (link : Option LinkState) (error : Option EngineError) (result : Result Progress EngineError) → TellsFault (calls old new H I m) kind error result → OnOk result (A → IfSome link (λ j. IfSome new.link (P j)))
  told_answered A P link error result told = on_ok _ _ result (λ p (_, none, _, _) _. no_link P link new.link none) (told_ok error result told)

  pub told_unlinked : (P : LinkState → LinkState → Type 0) (link : Option LinkState) (error : Option EngineError) (result : Result Progress EngineError) → TellsFault (calls old new H I m) kind error result → OnOk result (IfSome link (λ j. IfSome new.link (P j)))
  told_unlinked P link error result told = on_ok _ _ result (λ p (_, none, _, _). no_link P link new.link none) (told_ok error result told)

  pub told_recorded : (error : Option EngineError) (result : Result Progress EngineError) → TellsFault (calls old new H I m) kind error result → OnOk result (new.fault ≡ None)
  told_recorded error result told = on_ok _ _ result (λ p (_, _, fault, _). fault) (told_ok error result told)

  pub told_in_time : (error : Option EngineError) (result : Result Progress EngineError) → TellsFault (calls old new H I m) kind error result → IfOk result (λ _. ¬ IsLate new.outbox m)
  told_in_time error result told = if_ok _ _ result (λ p (_, _, _, outbox). not_late-anew old.outbox new.outbox m outbox) (told_ok error result told)

  pub told_moved : (A : Type 0) (error : Option EngineError) (result : Result Progress EngineError) → TellsFault (calls old new H I m) kind error result → IfOk result (λ p. p ≡ Progress.Idle → A)
  told_moved A error result told = if_ok _ _ result (λ p (moved, _, _, _) idle. absurd cc) (told_ok error result told)

  pub told_needs_none : (error : Option EngineError) (result : Result Progress EngineError) → TellsFault (calls old new H I m) kind error result → IfOk result (λ p. p ≢ Progress.NeedsLink)
  told_needs_none error result told = if_ok _ _ result (λ p (moved, _, _, _) needs. absurd cc) (told_ok error result told)

  pub told_link : (error : Option EngineError) (result : Result Progress EngineError) → old.link ≡ None → TellsFault (calls old new H I m) kind error result → new.link ≡ None
  told_link error result none (inl (records, _)) = records.fails.link
  told_link error result none (inr (kept, _, _)) = ap (λ (z : HostState). z.link) kept ∙ none

-- what held of the outbox and the link before a fault was told holds of a link that stays
pub told_stays : (P : HostOutboxState → LinkState → Type 0) (old new : HostState) (H I : History) (kind : Kind) (m : ℕ) (error : Option EngineError) (result : Result Progress EngineError)
    → IfSome old.link (P old.outbox) → TellsFault (calls old new H I m) kind error result → IfSome new.link (P new.outbox)
told_stays P old new H I kind m error result held (inl (records, _)) = rw records.fails.link tt
told_stays P old new H I kind m error result held (inr (kept, _, _)) =
    rw (ap (λ (z : HostState). z.link) kept, ap (λ (z : HostState). z.outbox) kept) held

-- the cause of a fault, of the lists before and after it was recorded
pub unasked_here : (C : Event → List Step → Type 0) (x y z : List Step) (m : ℕ) → StartsWith y x → StartsWith z y → (kind : Kind) (error : Option EngineError) (l : HostOutboxState) (j k : LinkState)
    → IsCauseOf ((v : Value) × (k.next ≡ Some v) × C (Event.Answered l.host l.epoch v m) y) (IsLateOn l (from_to j k) m) (from_to j k) kind error → IsCauseOf (IsUnasked C x z m l k) (IsLateOn l (from_to j k) m) (from_to j k) kind error
unasked_here C x y z m later last kind error l j k cause = cause_later j j k _ _ _ _ refl refl (λ (value, next, unasked). (value, next, (y, later, last, unasked))) (λ late. late) kind error cause

-- the causes of faults over longer lists
module _ (C : Event → List Step → Type 0) (x y z : List Step) (m : ℕ) (later : StartsWith y x) where
  unasked_earlier : (l : HostOutboxState) (k : LinkState) → IsUnasked C y z m l k → IsUnasked C x z m l k
  unasked_earlier l k (value, next, (between, begins, ends, cause)) = (value, next, (between, starts_then x y between later begins, ends, cause))

  caused_earlier : (move : HostMove) (kind : Kind) (error : Option EngineError) → move.moment ≡ m → IsCausedOn (IsUnasked C y z m) move kind error → IsCausedOn (IsUnasked C x z m) move kind error
  caused_earlier move kind error same c = by move.old.link move.new.link c
    where
      by : (j k : Option LinkState)
          → IsCausedBetween (λ j k. IsCauseOf (IsUnasked C y z m move.new.outbox k) (IsLateOn move.new.outbox (from_to j k) move.moment) (from_to j k) kind error) ((kind ≡ Kind.Late) × (error ≡ None) × IsLate move.new.outbox move.moment) j k
          → IsCausedBetween (λ j k. IsCauseOf (IsUnasked C x z m move.new.outbox k) (IsLateOn move.new.outbox (from_to j k) move.moment) (from_to j k) kind error) ((kind ≡ Kind.Late) × (error ≡ None) × IsLate move.new.outbox move.moment) j k
      by None None c = c
      by (Some j) (Some k) c = cause_later j j k _ _ _ _ refl refl (unasked_earlier move.new.outbox k) (λ late. late) kind error c
      by None (Some k) c = absurd c
      by (Some j) None c = absurd c

  left_earlier : (f : Option Kind) (move : HostMove) → move.moment ≡ m → IfSome f (λ kind. (error : Option EngineError) × IsCausedOn (IsUnasked C y z m) move kind error)
      → IfSome f (λ kind. (error : Option EngineError) × IsCausedOn (IsUnasked C x z m) move kind error)
  left_earlier None move same c = tt
  left_earlier (Some kind) move same c = (c.0, caused_earlier move kind c.0 same c.1)

  works_earlier : (old new : HostState) (H I : History) (result : Result Progress EngineError) → WorksHost (IsUnasked C y z m) (calls old new H I m) result → WorksHost (IsUnasked C x z m) (calls old new H I m) result
  works_earlier old new H I result w = record { last = w.last; between = w.between; moved = w.moved; goes = w.goes; ends = by w.ends }
    where
      by : ((new.outbox ≡ w.last.outbox) × (new.link ≡ w.last.link) × (I ≡ w.between) × IsAnswered w.moved result × IfSome new.fault (λ kind. (error : Option EngineError) × IsCausedOn (IsUnasked C y z m) (move_of (calls old w.last H w.between m)) kind error))
          ⊎ ((kind : Kind) × (error : Option EngineError) × Records (calls w.last new w.between I m) kind × IsCausedOn (IsUnasked C y z m) (move_of (calls old w.last H w.between m)) kind error × (result ≡ answer_of error))
          → ((new.outbox ≡ w.last.outbox) × (new.link ≡ w.last.link) × (I ≡ w.between) × IsAnswered w.moved result × IfSome new.fault (λ kind. (error : Option EngineError) × IsCausedOn (IsUnasked C x z m) (move_of (calls old w.last H w.between m)) kind error))
          ⊎ ((kind : Kind) × (error : Option EngineError) × Records (calls w.last new w.between I m) kind × IsCausedOn (IsUnasked C x z m) (move_of (calls old w.last H w.between m)) kind error × (result ≡ answer_of error))
      by (inl (outbox, link, same, told, left)) = inl (outbox, link, same, told, left_earlier new.fault (move_of (calls old w.last H w.between m)) refl left)
      by (inr (kind, error, records, cause, answer)) = inr (kind, error, records, caused_earlier (move_of (calls old w.last H w.between m)) kind error refl cause, answer)

  -- an earlier fault is recorded first
  pub steps_after : (old first new : HostState) (kind : Kind) (H I J : History) (answer result : Result Progress EngineError) → old.fault ≡ Some kind → Records (calls old first H I m) kind
      → WorksHost (IsUnasked C y z m) (calls first new I J m) answer → result ≡ after_fault answer → StepsHost (IsUnasked C x z m) (calls old new H J m) result
  steps_after old first new kind H I J answer result was records works told = record {
    first = first;
    between = I;
    answer = answer;
    begins = inr (kind, was, records, told);
    whole = records.fault;
    works = works_earlier first new I J answer works;
  }

-- without a link, bytes that are pending need one
pub needs_alone : (r : Result Progress EngineError) (link : Option LinkState) (pending : List ℕ) → link ≡ None → IfOk r (λ p. (p ≡ Progress.NeedsLink) ↔ (pending ≢ [])) → IfOk r (λ p. (p ≡ Progress.NeedsLink) ↔ ((link ≡ None) × (pending ≢ [])))
needs_alone (Ok p) link pending none e = ((λ q. (none, e.0 q)), (λ q. e.1 q.1))
needs_alone (Err x) link pending none e = tt

pub empty_is : (xs : List ℕ) (b : Bool) → b ≡ (length xs == 0) → b ≡ true → xs ≡ []
empty_is [] b is full = refl
empty_is (x ∷ xs) b is full = let e : b ≡ false = is ∙ ne_eqb (length (x ∷ xs)) 0 (λ q. omega (arith, q)) in let f : true ≡ false = sym full ∙ e in absurd cc
