-- What holds of every legal history: beginnings, outcomes and parts. What else holds stands in the modules named for it.
use Rattle.std.specs.Prelude.{◌≡◌, ◌↔◌, ◌<◌, ◌≤◌, ◌==◌, ◌&&◌, ℕ, zero, suc, Bool, true, false, List, [], ◌∷◌, ◌++◌, Some, is_some, None, Option, ◌⊎◌, length, Contains}
use Rattle.std.specs.List.{list_any, slice_get}
use Rattle.std.specs.Option.{unwrap_or}
use Rattle.resp_core.specs.Tree.{Tree, null_bulk}
use Rattle.resp_core.specs.Text.{text}
use Rattle.ketama.specs.Owner.{owner_of, is_usable}
use Rattle.ketama.specs.OwnerLaws.{all_usable}
use Rattle.ejector.specs.State.{out_count}
use Rattle.ejector.specs.Opening.{IsOpening}
use Rattle.ejector.specs.Ejection.{state}
use Rattle.ejector.specs.Trips.{most_out}
use Rattle.splitter.specs.Plan.{parts}
use Rattle.splitter.specs.declared.plans.Join.{Join}
use Rattle.splitter.specs.declared.plans.PartPlan.{PartPlan}
use Rattle.splitter.specs.declared.request.Request.{Request}
use Rattle.proxy_history.specs.Setting.{Setting, point_for, max_waiting}
use Rattle.proxy_history.specs.History.{History, Step, plan_for, accepted_count, handed_count, epoch, has, is_fault}
use Rattle.proxy_history.specs.Replies.{replies_from}
use Rattle.proxy_history.specs.Part.{Part, Past, is_same}
use Rattle.proxy_history.specs.Waiting.{sent_to}
use Rattle.proxy_history.specs.Arrival.{usable_flags, host_for, before_it, parts_by, no_upstream_host, proxy_busy}
use Rattle.proxy_history.specs.Past.{past}
use Rattle.proxy_history.specs.Value.{value_of, upstream_failure}
use Rattle.proxy_history.specs.Outcome.{outcome}
use Rattle.proxy_history.specs.Legal.{IsLegal}
use Rattle.proxy_history.specs.Output.{transcript}
use Rattle.proxy_history.specs.declared.event.Event.{Event}
use Rattle.proxy_history.specs.declared.event.Event.TheVariants.{Arrived, Failed}

-- each beginning of a legal history is legal
abbrev pub BeginningsAreLegal : Type 0
BeginningsAreLegal = (S : Setting) (later before : History)
    → IsLegal S (later ++ before) → IsLegal S before

-- an outcome stays as it is, whatever comes later
abbrev pub OutcomesStay : Type 0
OutcomesStay = (S : Setting) (later before : History) (c i : ℕ) (v : Tree)
    → IsLegal S (later ++ before) → outcome c i (past S before) ≡ Some v
    → outcome c i (past S (later ++ before)) ≡ Some v

-- none of these parts stands twice among them
abbrev pub AreApart : List Part → Type 0
AreApart [] = Unit {0}
AreApart (p ∷ ps) = (list_any (is_same p) ps ≡ false) × AreApart ps

-- no part is sent twice, to whatever host and in whatever epoch
abbrev pub NoneIsSentTwice : Type 0
NoneIsSentTwice = (S : Setting) (H : History) → AreApart (past S H).sent

-- the texts of a connection's first n outcomes, one after the other
abbrev pub first_outcomes : Past → ℕ → ℕ → List ℕ
first_outcomes past c zero = []
first_outcomes past c (suc n) =
    first_outcomes past c n ++ text (unwrap_or (outcome c n past) null_bulk)

-- the first n have come
pub record HaveCome (past : Past) (c n : ℕ) : Type 0 where
  pub each : (i : ℕ) → i < n → is_some (outcome c i past) ≡ true

-- what was handed out is the outcomes in the order of the commands, none missing
abbrev pub RepliesAreInOrder : Type 0
RepliesAreInOrder = (S : Setting) (H : History) (c : ℕ) → IsLegal S H
    → (transcript c H ≡ first_outcomes (past S H) c (handed_count c H))
    × HaveCome (past S H) c (handed_count c H)

-- no more hosts are out than the limit allows, at each beginning, where the opening state allows no more
abbrev pub FewAreOut : Type 0
FewAreOut = (S : Setting) (H : History) → IsOpening S.rules S.opening
    → out_count (state S.rules S.opening (past S H).marks) ≤ most_out S.rules

-- a key whose owner among all hosts is usable goes to that owner, whatever else is out
abbrev pub OwnersStay : Type 0
OwnersStay = (S : Setting) (x : Past) (key : List ℕ) (h : ℕ)
    → owner_of S.ring.pairs (point_for S key) (all_usable (usable_flags S x)) ≡ Some h
    → is_usable (usable_flags S x) h ≡ true → host_for S x key ≡ Some h

-- each part that was sent is a part that arrived
abbrev pub SentPartsArrived : Type 0
SentPartsArrived = (S : Setting) (H : History) (p : Part)
    → Contains (past S H).sent p → Contains (past S H).parts p

-- of each host and epoch no more replies came than parts were sent
abbrev pub RepliesWereAsked : Type 0
RepliesWereAsked = (S : Setting) (H : History) (h e : ℕ) → IsLegal S H
    → length (replies_from h e H) ≤ length (sent_to h e (past S H))

-- a fault of this host in this epoch
abbrev pub is_fault_in : ℕ → ℕ → Event → Bool
is_fault_in h e (Failed host ep kind t) = (host == h) && (ep == e)
is_fault_in h e _ = false

-- an epoch is over exactly if a fault of its host in that epoch stands in the history
abbrev pub EpochsEndByFaults : Type 0
EpochsEndByFaults = (S : Setting) (H : History) (h e : ℕ) → IsLegal S H
    → (has (is_fault_in h e) H ≡ true) ↔ (e < epoch h H)

-- the epoch of a host stays the same exactly if no fault of it comes
abbrev pub FaultsRaiseEpochs : Type 0
FaultsRaiseEpochs = (later before : History) (h : ℕ)
    → (has (is_fault h) later ≡ false) ↔ (epoch h (later ++ before) ≡ epoch h before)

-- What a part gets at its arrival: `no upstream host` without a host, else the host's epoch, and `proxy busy` exactly if
-- as many as may wait do when its turn within its command comes.
abbrev pub IsPlaced : Past → List Part → Option ℕ → ℕ → Option Tree → Type 0
IsPlaced x placed None e local = local ≡ Some no_upstream_host
IsPlaced x placed (Some h) e local = (e ≡ epoch h x.steps)
    × (((before_it h x placed < max_waiting) × (local ≡ None))
    ⊎ ((max_waiting ≤ before_it h x placed) × (local ≡ Some proxy_busy)))

-- The part arrived at some step: it is the part of its number of the plan of a request, has the text and the host of that
-- plan, by what stood before the step, and got what it gets there.
pub record HasArrived (S : Setting) (H : History) (p : Part) : Type 0 where
  pub later : History
  pub step : Step
  pub before : History
  pub split : H ≡ later ++ step ∷ before
  pub request : Request
  pub arrives : step.event ≡ Arrived p.conn request
  pub command_is : p.command ≡ accepted_count p.conn before
  pub how : Join
  pub list : List PartPlan
  pub is_split : plan_for request ≡ parts how list
  pub plan : PartPlan
  pub plan_is : slice_get list p.number ≡ Some plan
  pub text_is : p.text ≡ plan.text
  pub host_is : p.host ≡ host_for S (past S before) plan.key
  -- the parts of its command that were placed before it
  pub placed : List Part
  pub rest : List Part
  pub placed_is : parts_by S (past S before) step.event ≡ placed ++ p ∷ rest
  pub number_is : p.number ≡ length placed
  pub got : IsPlaced (past S before) placed p.host p.epoch p.local

-- each part is the part of its number of a command that arrived
abbrev pub PartsHaveArrived : Type 0
PartsHaveArrived = (S : Setting) (H : History) (p : Part)
    → Contains (past S H).parts p → HasArrived S H p

-- the part was sent in some place, and this value came in that place
pub record IsReply (past : Past) (h : ℕ) (p : Part) (v : Tree) : Type 0 where
  pub place : ℕ
  pub sent : Part
  pub is_sent : slice_get (sent_to h p.epoch past) place ≡ Some sent
  pub is_same : is_same p sent ≡ true
  pub came : slice_get (replies_from h p.epoch past.steps) place ≡ Some v

-- The part is lost: no reply came in its place before the fault of its host in its epoch, which stands in the history.
pub record IsLost (S : Setting) (H : History) (h : ℕ) (p : Part) : Type 0 where
  pub fault : has (is_fault_in h p.epoch) H ≡ true
  pub unanswered : (v : Tree) → IsReply (past S H) h p v → ⊥

-- Which value is a part's own: the one that it got at its arrival; else the reply that came from its host in its place, or
-- `upstream failure` where it is lost.
abbrev pub IsOwnValue : Setting → History → Part → Option Tree → Option ℕ → Tree
    → Type 0
IsOwnValue S H p (Some local) host v = v ≡ local
IsOwnValue S H p None None v = ⊥
IsOwnValue S H p None (Some h) v =
    IsReply (past S H) h p v ⊎ ((v ≡ upstream_failure) × IsLost S H h p)

-- A part has exactly its own value, and none as long as there is none of its own.
abbrev pub ValuesAreOwn : Type 0
ValuesAreOwn = (S : Setting) (H : History) (p : Part) (v : Tree) → IsLegal S H
    → (value_of (past S H) p ≡ Some v) ↔ IsOwnValue S H p p.local p.host v
