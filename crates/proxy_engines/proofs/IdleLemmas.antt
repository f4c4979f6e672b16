-- Why a client is idle, put together.
use Rattle.std.proofs.Common.{◌≡◌, ◌⊎◌, ℕ, List, [], append-nil, sym, inl, inr}
use Rattle.ticket_gate.specs.Journal.{StartsWith}
use Rattle.proxy_history.specs.History.{Step}
use Rattle.proxy_history.specs.declared.event.Event.{Event}
use Rattle.proxy_history.specs.declared.refusal.Refusal.{Refusal}
use Rattle.proxy_engines.specs.Ends.{InboxState, HasGivenAll}
use Rattle.proxy_engines.specs.OneTurn.{HasHeld}
use Rattle.proxy_engines.specs.Client.{Client, AwaitsBytes, AwaitsReplies, HandsNothing, IsHeldBack, IsIdle}
use Rattle.proxy_engines.proofs.HostMoves.{starts_then}

-- what held between two lists held between two that stand further apart
held_within : (C : Event → List Step → Type 0) (event : Event) (w x y z : List Step) → StartsWith x w → StartsWith z y → HasHeld C event x y → HasHeld C event w z
held_within C event w x y z first last (between, begins, ends, cause) =
    (between, starts_then w x between first begins, starts_then between y z ends last, cause)

-- what holds now held between the list before and this one
pub held_now : (C : Event → List Step → Type 0) (event : Event) (x y : List Step) → StartsWith y x → C event y → HasHeld C event x y
held_now C event x y later cause = (y, later, ([], sym (append-nil y)), cause)

-- the next reply hasn't come, so that nothing can be handed out
pub hands_nothing : (C : Refusal → Event → List Step → Type 0) (e : Client) (x y : List Step) → StartsWith y x
    → (left : ℕ) × C (Refusal.NotReady left) (Event.Handed e.conn) y → HandsNothing C e x y
hands_nothing C e x y later (left, cause) = inr (left, held_now (C (Refusal.NotReady left)) (Event.Handed e.conn) x y later cause)

module _ (C : Refusal → Event → List Step → Type 0) (e new : Client) (x y z : List Step) (first : StartsWith y x) (last : StartsWith z y) (empty : e.outbox.pending ≡ []) where
  nothing_later : HandsNothing C e x y → HandsNothing C e x z
  nothing_later (inl all) = inl all
  nothing_later (inr n) = inr (n.0, held_within (C (Refusal.NotReady n.0)) (Event.Handed e.conn) x x y z ([], sym (append-nil x)) last n.1)

  pub idle_open : HandsNothing C e x y → IsHeldBack C new y z ⊎ AwaitsBytes e new → IsIdle C e new x z
  idle_open nothing (inl (request, next, crowded)) =
      inr (empty, nothing_later nothing, inl (request, next, held_within (C Refusal.Crowded) (Event.Arrived new.conn request) x y z z first ([], sym (append-nil z)) crowded))
  idle_open nothing (inr a) = inr (empty, nothing_later nothing, inr (inr a))

  pub idle_finishing : HandsNothing C e x y → AwaitsReplies new → IsIdle C e new x z
  idle_finishing nothing a = inr (empty, nothing_later nothing, inr (inl a))

-- after a read that brought nothing all requests are still given
pub given_still : (i j : InboxState) → HasGivenAll i → j.fresh ≡ [] → j.values ≡ i.values → HasGivenAll j
given_still i j all none same = record {
  none_fresh = none;
  none_refused = rw same all.none_refused;
  all = λ b rs h. rw same (all.all b rs (record {
    fed = h.fed;
    given = h.given;
    bytes = rw all.none_fresh (rw none at h.bytes);
    stands = rw same at h.stands;
    requests = rw same at h.requests;
    after = rw (← same, all.none_fresh) (rw none at h.after);
  }));
}
