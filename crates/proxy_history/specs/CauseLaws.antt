-- What it means that nothing can be handed out, and that no command is taken.
use Rattle.std.specs.Prelude.{◌≡◌, ◌↔◌, ◌⊎◌, ℕ, true, Some, None}
use Rattle.splitter.specs.declared.request.Request.{Request}
use Rattle.proxy_history.specs.Setting.{Setting}
use Rattle.proxy_history.specs.History.{handed_count, is_open, is_finishing}
use Rattle.proxy_history.specs.Part.{Past}
use Rattle.proxy_history.specs.Outcome.{outcome}
use Rattle.proxy_history.specs.Cause.{commands_left, own_cause}
use Rattle.proxy_history.specs.declared.event.Event.TheVariants.{Arrived, Handed}
use Rattle.proxy_history.specs.declared.refusal.Refusal.TheVariants as refusal

-- The connection is open and has so many unwritten commands: none, or the next of them has no outcome yet.
pub record HasNothingReady (x : Past) (c unwritten : ℕ) : Type 0 where
  pub opened : is_open c x.steps ≡ true
  pub unwritten_are : unwritten ≡ commands_left c x
  pub none_ready : (unwritten ≡ 0) ⊎ (outcome c (handed_count c x.steps) x ≡ None)

-- a handing out is refused as not ready exactly there
abbrev pub NotReadyMeans : Type 0
NotReadyMeans = (S : Setting) (x : Past) (c unwritten : ℕ)
    → (own_cause S x (Handed c) ≡ Some (refusal.NotReady unwritten)) ↔ HasNothingReady x c unwritten

-- an open connection that finishes takes no command more
abbrev pub FinishingTakesNothing : Type 0
FinishingTakesNothing = (S : Setting) (x : Past) (c : ℕ) (request : Request)
    → is_open c x.steps ≡ true → is_finishing c x.steps ≡ true
    → own_cause S x (Arrived c request) ≡ Some refusal.Finishing
