-- The core's journal as a pass sees it, and its history.
use Rattle.std.proofs.Common.{◌≡◌, [], ◌∷◌, ◌++◌, sym, ap, ◌∙◌, subst}
use Rattle.std.specs.Prelude.{length, reverse}
use Rattle.std.proofs.lemmas.List.{reverse-append, reverse-reverse}
use Rattle.proxy_history.specs.Setting.{Setting}
use Rattle.proxy_history.specs.History.{Step}
use Rattle.proxy_history.specs.Legal.{IsLegal, IsCause}
use Rattle.proxy_history.specs.Payload.{payload}
use Rattle.proxy_history.specs.Proxy.{Proxy, history_in}
use Rattle.proxy_history.specs.declared.event.Event.{Event}
use Rattle.proxy_history.specs.declared.refusal.Refusal.{Refusal}
use Rattle.proxy_core.specs.Handover.{HandoverFacts}
use Rattle.proxy_core.specs.Recorded.{journal_of, made_with, IsLegalJournal, IsCauseIn, detection_after, handover_of}

-- a step more
pub journal_more : (old new : Proxy) (s : Step) → history_in new ≡ s ∷ history_in old → journal_of new ≡ journal_of old ++ s ∷ []
journal_more old new s e =
    sym (reverse-reverse new.steps) ∙ ap reverse e ∙ reverse-append (s ∷ []) (reverse old.steps) ∙ ap (λ z. z ++ s ∷ []) (reverse-reverse old.steps)

pub journal_legal : (old new : Proxy) → new.setting ≡ old.setting → IsLegal new.setting (history_in new) → IsLegalJournal (made_with old) (journal_of new)
journal_legal old new e legal =
    subst (λ (T : Setting). IsLegal T (history_in new)) e legal

pub journal_cause : (k : Proxy) (r : Refusal) (event : Event) → IsCause k.setting (history_in k) event r → IsCauseIn (made_with k) r event (journal_of k)
journal_cause k r event cause = cause

-- a handover of the core's history is that of its journal
pub handover_of-journal_of : (k : Proxy) (h : HandoverFacts) → h.detection ≡ detection_after k.setting (history_in k) → h.steps ≡ length k.steps
    → h.bytes ≡ payload (history_in k) → h ≡ handover_of (made_with k) (journal_of k)
handover_of-journal_of k h detection steps bytes =
    λ i. record { detection = detection i; steps = steps i; bytes = bytes i }
