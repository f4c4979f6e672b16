-- Each outcome that a replay of a legal history shows can be written.
use Rattle.std.proofs.Common.{ℕ, List, [], sym, subst}
use Rattle.proxy_history.specs.Setting.{Setting}
use Rattle.proxy_history.specs.History.{Step}
use Rattle.proxy_history.specs.Part.{Part}
use Rattle.proxy_history.specs.Past.{sent_in}
use Rattle.proxy_history.specs.Outcome.{outcome}
use Rattle.proxy_history.specs.Legal.{IsLegal}
use Rattle.proxy_history.proofs.CallerLemmas.{IsPlainIfAny, IsPlainIfAny-outcome}
use Rattle.test_reference.specs.Scan.{history_of, past_of_scan, Shows}
use Rattle.test_reference.specs.Scan.{parts_of as parts_of'}
use Rattle.test_reference.specs.declared.replay.Replay.{Replay}

pub seen_is_plain : (S : Setting) (steps : List Step) (r : Replay) (c i : ℕ) → IsLegal S (history_of steps) → Shows S (history_of steps) r → IsPlainIfAny (outcome c i (past_of_scan steps [] r))
seen_is_plain S steps r c i legal shows =
    subst (λ (ss : List Part). IsPlainIfAny (outcome c i (record { steps = history_of steps; parts = parts_of' r.parts.items; sent = ss; marks = [] }))) (sym shows.sent)
    (subst (λ (ps : List Part). IsPlainIfAny (outcome c i (record { steps = history_of steps; parts = ps; sent = sent_in S (history_of steps); marks = [] }))) (sym shows.parts)
    (IsPlainIfAny-outcome S (history_of steps) legal c i))
