-- A step that was added.
use Rattle.std.proofs.Common.{◌≡◌, ◌∷◌, Result, Ok, Err, OnOk, ℕ}
use Rattle.proxy_history.specs.History.{Step}
use Rattle.proxy_history.specs.Past.{past}
use Rattle.proxy_history.specs.Legal.{MayFollow}
use Rattle.proxy_history.specs.Proxy.{Proxy, history_in, IsStep}
use Rattle.proxy_history.specs.declared.event.Event.{Event}

pub added : {A E : Type 0} (r : Result A E) (old new : Proxy) (pass : ℕ) (event : Event) (s : Step) → s.pass ≡ pass → s.event ≡ event → MayFollow old.setting (past old.setting (history_in old)) s
    → OnOk r ((history_in new ≡ s ∷ history_in old) × (new.setting ≡ old.setting)) → OnOk r ((x : Step) × IsStep old new pass event x)
added (Ok a) old new pass event s p e may h = (s, record { pass_is = p; event_is = e; may_follow = may; history = h.0; setting = h.1 })
added (Err error) old new pass event s p e may h = tt
