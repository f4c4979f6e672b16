-- What waits for a host, and what is sent to it.
use Rattle.std.specs.Prelude.{◌≡◌, ◌↔◌, ◌⊎◌, ◌<◌, ℕ, false, List, [], ◌∷◌, ◌++◌, Some, None, length, Contains}
use Rattle.std.specs.List.{flat_map}
use Rattle.proxy_history.specs.Setting.{Setting}
use Rattle.proxy_history.specs.History.{History, Step, epoch, has, is_fault, is_closed}
use Rattle.proxy_history.specs.Part.{Part}
use Rattle.proxy_history.specs.Past.{past}
use Rattle.proxy_history.specs.Waiting.{waiting_parts, sent_to}
use Rattle.proxy_history.specs.Legal.{IsLegal}
use Rattle.proxy_history.specs.Output.{upstream}
use Rattle.proxy_history.specs.Laws.{HasArrived}
use Rattle.proxy_history.specs.declared.event.Event.TheVariants.{Taken}
use Rattle.proxy_history.specs.declared.answer.Answer.TheVariants as answer

-- The part arrived for the host and got no value at once; the host had no fault since, the part was not sent, and its
-- connection is not closed.
pub record IsUnsent (S : Setting) (H : History) (h : ℕ) (p : Part) : Type 0 where
  pub arrival : HasArrived S H p
  pub for_host : p.host ≡ Some h
  pub no_value : p.local ≡ None
  pub no_fault : has (is_fault h) arrival.later ≡ false
  pub not_sent : Contains (past S H).sent p → ⊥
  pub not_closed : is_closed p.conn H ≡ false

-- these are the parts that wait
abbrev pub UnsentPartsWait : Type 0
UnsentPartsWait = (S : Setting) (H : History) (h : ℕ) (p : Part)
    → Contains (waiting_parts h (past S H)) p ↔ IsUnsent S H h p

-- The first part arrived before the second, or with it and under a lower number.
pub record ComesFirst (S : Setting) (H : History) (p q : Part) : Type 0 where
  pub first : HasArrived S H p
  pub second : HasArrived S H q
  pub order : (length first.before < length second.before)
      ⊎ ((first.before ≡ second.before) × (p.number < q.number))

-- of two parts that wait the one in front came first
abbrev pub WaitingIsInOrder : Type 0
WaitingIsInOrder = (S : Setting) (H : History) (h : ℕ) (front middle rest : List Part)
    (p q : Part) → waiting_parts h (past S H) ≡ front ++ p ∷ (middle ++ q ∷ rest)
    → ComesFirst S H p q

-- The step sends a part to the host: the first that waits. It stands behind those sent to the host in its present epoch,
-- and the answer has this epoch, its place among them, and its text.
pub record Sends (S : Setting) (before : History) (s : Step) (h : ℕ) : Type 0 where
  pub part : Part
  pub rest : List Part
  pub is_first : waiting_parts h (past S before) ≡ part ∷ rest
  pub is_sent : (past S (s ∷ before)).sent ≡ (past S before).sent ++ part ∷ []
  pub is_last : sent_to h (epoch h before) (past S (s ∷ before))
      ≡ sent_to h (epoch h before) (past S before) ++ part ∷ []
  pub goes_out : s.answer ≡ answer.Sent (epoch h before)
      (length (sent_to h (epoch h before) (past S before))) part.text

-- each Taken step sends a part
abbrev pub EachTakenSends : Type 0
EachTakenSends = (S : Setting) (before : History) (s : Step) (h : ℕ)
    → IsLegal S (s ∷ before) → s.event ≡ Taken h → Sends S before s h

-- What the step leaves as it was sent: a Taken step of a host in an epoch all that was sent to others or in another epoch,
-- and any other step all that was sent.
pub record SendsNothingElse (S : Setting) (before : History) (s : Step) : Type 0 where
  pub to_others : (h e : ℕ) → (s.event ≡ Taken h → epoch h before ≡ e → ⊥)
      → sent_to h e (past S (s ∷ before)) ≡ sent_to h e (past S before)
  pub by_others : ((h : ℕ) → s.event ≡ Taken h → ⊥)
      → (past S (s ∷ before)).sent ≡ (past S before).sent

-- no step sends anything but what a Taken step sends to its host
abbrev pub NothingElseIsSent : Type 0
NothingElseIsSent = (S : Setting) (before : History) (s : Step) → SendsNothingElse S before s

-- what went out to a host in an epoch is the texts of the parts sent to it, one after the other
abbrev pub UpstreamIsWhatWasSent : Type 0
UpstreamIsWhatWasSent = (S : Setting) (H : History) (h e : ℕ) → IsLegal S H
    → upstream h e H ≡ flat_map (λ (p : Part). p.text) (sent_to h e (past S H))
