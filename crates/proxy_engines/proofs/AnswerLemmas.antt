-- What a step answers, by what its parts answer.
use Rattle.std.proofs.Common.{◌≡◌, ◌≢◌, ◌⊎◌, ◌∙◌, Bool, true, false, None, inl, inr, refl, ap}
use Rattle.std.proofs.lemmas.Result.{err_from_is_err_and}
use Rattle.std.specs.Prelude.{Result, Ok, Err, IfOk, IfErr, OnOk}
use Rattle.proxy_history.specs.History.{History}
use Rattle.proxy_engines.specs.Client.{Client, Goes, Cuts, HasNoFault}
use Rattle.proxy_engines.specs.Moves.{AsTold, told_by_step}
use Rattle.engine_work.specs.EngineError.{IsTurnRefused}
use Rattle.proxy_engines.specs.declared.client.Progress.{Progress}
use Rattle.proxy_engines.specs.declared.client.Stage.{Stage}
use Rattle.engine_work.specs.declared.error.EngineError.{EngineError}
use Rattle.proxy_engines.proofs.ClientMoves.{goes_some}
use Rattle.proxy_engines.proofs.MoveLemmas.{as-none}

pub if_ok : (P Q : Progress → Type 0) (r : Result Progress EngineError) → ((p : Progress) → P p → Q p) → IfOk r P → IfOk r Q
if_ok P Q (Ok p) f h = f p h
if_ok P Q (Err e) f h = tt

pub if_err : {A : Type 0} (P Q : EngineError → Type 0) (r : Result A EngineError) → ((e : EngineError) → P e → Q e) → IfErr r P → IfErr r Q
if_err P Q (Ok p) f h = tt
if_err P Q (Err e) f h = f e h

pub on_ok : (P : Progress → Type 0) (Q : Type 0) (r : Result Progress EngineError) → ((p : Progress) → P p → Q) → IfOk r P → OnOk r Q
on_ok P Q (Ok p) f h = f p h
on_ok P Q (Err e) f h = tt

pub any_ok : {A : Type 0} (P : Type 0) (r : Result A EngineError) → P → OnOk r P
any_ok P (Ok p) h = h
any_ok P (Err e) h = tt

-- it moved, or it could do nothing for this cause
abbrev pub MovedOrIdle : Progress → Type 0 → Type 0
MovedOrIdle p A = (p ≡ Progress.Moved) ⊎ ((p ≡ Progress.Idle) × A)

pub idle_for : (A : Type 0) (p : Progress) → MovedOrIdle p A → p ≡ Progress.Idle → A
idle_for A p (inl moved) idle = absurd cc
idle_for A p (inr (_, a)) idle = a

pub moved_or_idle : (A : Type 0) (p : Progress) → MovedOrIdle p A → (p ≡ Progress.Moved) ⊎ (p ≡ Progress.Idle)
moved_or_idle A p (inl moved) = inl moved
moved_or_idle A p (inr (idle, a)) = inr idle

pub not_ended : (A B : Type 0) (p : Progress) → MovedOrIdle p A → p ≡ Progress.Ended → B
not_ended A B p (inl moved) ended = absurd cc
not_ended A B p (inr (idle, a)) ended = absurd cc

pub not_cut : (A : Type 0) (p : Progress) → MovedOrIdle p A → p ≢ Progress.Cut
not_cut A p (inl moved) cut = absurd cc
not_cut A p (inr (idle, a)) cut = absurd cc

pub not_link : (A : Type 0) (p : Progress) → MovedOrIdle p A → p ≢ Progress.NeedsLink
not_link A p (inl moved) link = absurd cc
not_link A p (inr (idle, a)) link = absurd cc

pub still_not_ended : (A : Type 0) (p : Progress) → (p ≡ Progress.Moved) ⊎ (p ≡ Progress.Idle) → p ≡ Progress.Ended → A
still_not_ended A p (inl moved) ended = absurd cc
still_not_ended A p (inr idle) ended = absurd cc

pub still_not_cut : (p : Progress) → (p ≡ Progress.Moved) ⊎ (p ≡ Progress.Idle) → p ≢ Progress.Cut
still_not_cut p (inl moved) cut = absurd cc
still_not_cut p (inr idle) cut = absurd cc

pub still_not_link : (p : Progress) → (p ≡ Progress.Moved) ⊎ (p ≡ Progress.Idle) → p ≢ Progress.NeedsLink
still_not_link p (inl moved) link = absurd cc
still_not_link p (inr idle) link = absurd cc

pub end_is : (A : Type 0) (p : Progress) → (p ≡ Progress.Idle) ⊎ ((p ≡ Progress.Ended) × A) → p ≡ Progress.Ended → A
end_is A p (inl idle) ended = absurd cc
end_is A p (inr (_, a)) ended = a

pub end_not_cut : (A : Type 0) (p : Progress) → (p ≡ Progress.Idle) ⊎ ((p ≡ Progress.Ended) × A) → p ≢ Progress.Cut
end_not_cut A p (inl idle) cut = absurd cc
end_not_cut A p (inr (ended, a)) cut = absurd cc

pub end_not_link : (A : Type 0) (p : Progress) → (p ≡ Progress.Idle) ⊎ ((p ≡ Progress.Ended) × A) → p ≢ Progress.NeedsLink
end_not_link A p (inl idle) link = absurd cc
end_not_link A p (inr (ended, a)) link = absurd cc

pub turn_unread : (A : Type 0) (e : EngineError) → IsTurnRefused e → e ≡ EngineError.ReadFailed → A
turn_unread A e (_, turn) read = absurd cc

pub turn_unwritten : (A : Type 0) (e : EngineError) → IsTurnRefused e → e ≡ EngineError.WriteFailed → A
turn_unwritten A e (_, turn) written = absurd cc

-- a device failed, or a turn was refused
module _ (A B C : Type 0) where
  pub write_unread : (r : Result Progress EngineError) → IfErr r (λ e. ((e ≡ EngineError.WriteFailed) × A × B) ⊎ IsTurnRefused e) → IfErr r (λ e. e ≡ EngineError.ReadFailed → C)
  write_unread (Ok p) told = tt
  write_unread (Err e) (inl (is, _, _)) = λ read. absurd cc
  write_unread (Err e) (inr turn) = turn_unread C e turn

  pub read_unwritten : (r : Result Progress EngineError) → IfErr r (λ e. (e ≡ EngineError.NoMemory) ⊎ (((e ≡ EngineError.ReadFailed) × A × B) ⊎ IsTurnRefused e)) → IfErr r (λ e. e ≡ EngineError.WriteFailed → C)
  read_unwritten (Ok p) told = tt
  read_unwritten (Err e) (inl none) = λ written. absurd cc
  read_unwritten (Err e) (inr (inl (is, _, _))) = λ written. absurd cc
  read_unwritten (Err e) (inr (inr turn)) = turn_unwritten C e turn

module _ (A B : Type 0) where
  pub write_is : (r : Result Progress EngineError) → IfErr r (λ e. ((e ≡ EngineError.WriteFailed) × A × B) ⊎ IsTurnRefused e) → IfErr r (λ e. e ≡ EngineError.WriteFailed → A × B)
  write_is (Ok p) told = tt
  write_is (Err e) (inl (_, a, b)) = λ _. (a, b)
  write_is (Err e) (inr turn) = turn_unwritten (A × B) e turn

  pub read_is : (r : Result Progress EngineError) → IfErr r (λ e. (e ≡ EngineError.NoMemory) ⊎ (((e ≡ EngineError.ReadFailed) × A × B) ⊎ IsTurnRefused e)) → IfErr r (λ e. e ≡ EngineError.ReadFailed → A × B)
  read_is (Ok p) told = tt
  read_is (Err e) (inl none) = λ read. absurd cc
  read_is (Err e) (inr (inl (_, a, b))) = λ _. (a, b)
  read_is (Err e) (inr (inr turn)) = turn_unread (A × B) e turn

-- the connection was closed where a device failed
pub failed_is : (A F G : Type 0) (e : EngineError) → (e ≡ EngineError.ReadFailed → F × A) → (e ≡ EngineError.WriteFailed → G × A) → (e ≡ EngineError.ReadFailed) ⊎ (e ≡ EngineError.WriteFailed) → A
failed_is A F G e read written (inl is) = (read is).1
failed_is A F G e read written (inr is) = (written is).1

-- moves, and then the connection was closed for a fault, or is to be
module _ (b c : Client) (y z : History) where
  pub cut_told : (a : Client) (x : History) (m : Bool) (answer result : Result Progress EngineError) → told_by_step answer ≡ None → Goes a b x y m → Cuts b c y z answer result → AsTold (Goes a c x z) (told_by_step result)
  cut_told a x m answer result none first (inl (last, _, is)) = as-none _ _ (ap told_by_step is ∙ none) (goes_some a b c x y z m true first last)
  cut_told a x m answer result none first (inr (last, _, refused)) = let (_, is, _) = err_from_is_err_and result refused in as-none _ _ (ap told_by_step is) (goes_some a b c x y z m false first last)

  pub cut_ok : (P : Progress → Type 0) (error : EngineError) (result : Result Progress EngineError) → Cuts b c y z (Err error) result → IfOk result P
  cut_ok P error result (inl (_, _, is)) = rw is tt
  cut_ok P error result (inr (_, _, refused)) = let (_, is, _) = err_from_is_err_and result refused in rw is tt

  pub cut_err : (A : Client → Type 0) (error : EngineError) (result : Result Progress EngineError) → A (record b { stage = Stage.Closed true }) → Cuts b c y z (Err error) result → IfErr result (λ e. ((e ≡ error) × A c × (c.stage ≡ Stage.Closed true)) ⊎ IsTurnRefused e)
  cut_err A error result failed (inl (_, new, is)) = rw (is, new) (inl (refl, failed, refl))
  cut_err A error result failed (inr (_, _, refused)) = let (_, is, turn) = err_from_is_err_and result refused in rw is (inr turn)

  pub cut_is : (result : Result Progress EngineError) → Cuts b c y z (Ok Progress.Cut) result → IfOk result (λ p. (p ≡ Progress.Cut) × (c.stage ≡ Stage.Closed true))
  cut_is result (inl (_, new, is)) = rw is (refl, ap (λ (e : Client). e.stage) new)
  cut_is result (inr (_, _, refused)) = let (_, is, _) = err_from_is_err_and result refused in rw is tt

  pub cut_unfailed : (p : Progress) (result : Result Progress EngineError) → Cuts b c y z (Ok p) result → OnOk result (HasNoFault b c)
  cut_unfailed p result (inl (_, new, is)) = rw (is, new) (refl, refl)
  cut_unfailed p result (inr (_, _, refused)) = let (_, is, _) = err_from_is_err_and result refused in rw is tt

  pub cut_turn : (p : Progress) (result : Result Progress EngineError) → Cuts b c y z (Ok p) result → IfErr result IsTurnRefused
  cut_turn p result (inl (_, _, is)) = rw is tt
  cut_turn p result (inr (_, _, refused)) = let (_, is, turn) = err_from_is_err_and result refused in rw is turn
