-- Why an event is refused.
use Rattle.std.specs.Prelude.{ℕ, Bool, List, [], ◌∷◌, ◌==◌, ◌-◌, ◌&&◌, not, nat_lt, nat_le, if◌then◌else◌, Option, Some, None, length, is_some}
use Rattle.resp_core.specs.Tree.{is_plain_tree}
use Rattle.resp_core.specs.Value.{tree_of}
use Rattle.proxy_history.specs.Setting.{Setting, hosts, max_connections, max_unwritten}
use Rattle.proxy_history.specs.History.{times, openings, accepted_count, handed_count, epoch, is_any_closing, is_open, is_finishing}
use Rattle.proxy_history.specs.Part.{Past}
use Rattle.proxy_history.specs.Waiting.{waiting_parts, flying_count}
use Rattle.proxy_history.specs.Outcome.{outcome}
use Rattle.proxy_history.specs.declared.event.Event.{Event}
use Rattle.proxy_history.specs.declared.event.Event.TheVariants.{Opened, Arrived, Finished, Taken, Answered, Failed, Swept, Handed, Closed}
use Rattle.proxy_history.specs.declared.refusal.Refusal.{Refusal}
use Rattle.proxy_history.specs.declared.refusal.Refusal.TheVariants as refusal

-- the first refusal of a row whose condition holds
abbrev pub first_true : List (Bool × Refusal) → Option Refusal
first_true [] = None
first_true (r ∷ rest) = if r.0 then Some r.1 else first_true rest

-- commands that are accepted and not handed out
abbrev pub commands_left : ℕ → Past → ℕ
commands_left c past = accepted_count c past.steps - handed_count c past.steps

-- whether the next reply of a connection has come
abbrev pub is_ready : ℕ → Past → Bool
is_ready c past = nat_lt 0 (commands_left c past) && is_some (outcome c (handed_count c past.steps) past)

-- What decides whether an event is refused: how many connections are open, and of each whether it is open and finishing, how
-- many of its commands are left and whether the reply to the oldest is ready; how many hosts there are, and of each how many
-- parts wait for it and fly to it, and its epoch.
pub record Grounds : Type 0 where
  pub open_count : ℕ
  pub is_open : ℕ → Bool
  pub is_finishing : ℕ → Bool
  pub left : ℕ → ℕ
  pub is_ready : ℕ → Bool
  pub hosts : ℕ
  pub waiting : ℕ → ℕ
  pub flying : ℕ → ℕ
  pub epoch : ℕ → ℕ

-- as a past has it
abbrev pub grounds_of : Setting → Past → Grounds
grounds_of S past = record {
  open_count = openings past.steps - times is_any_closing past.steps;
  is_open = λ c. is_open c past.steps;
  is_finishing = λ c. is_finishing c past.steps;
  left = λ c. commands_left c past;
  is_ready = λ c. is_ready c past;
  hosts = hosts S;
  waiting = λ h. length (waiting_parts h past);
  flying = λ h. flying_count h past;
  epoch = λ h. epoch h past.steps;
}

-- the cause of a connection that isn't open
abbrev pub no_such_connection : Grounds → ℕ → Bool × Refusal
no_such_connection g c = (not (g.is_open c), refusal.NoSuchConnection)

-- the cause of a connection that takes nothing more
abbrev pub finishing_cause : Grounds → ℕ → Bool × Refusal
finishing_cause g c = (g.is_finishing c, refusal.Finishing)

-- the cause of a number that no host has
abbrev pub no_such_host : Grounds → ℕ → Bool × Refusal
no_such_host g h = (nat_le g.hosts h, refusal.NoSuchHost)

-- the cause of an epoch that isn't the host's
abbrev pub stale_cause : Grounds → ℕ → ℕ → Bool × Refusal
stale_cause g h e = (not (e == g.epoch h), refusal.Stale (g.epoch h))

-- the causes of an event's own, in their order
abbrev pub causes_by : Grounds → Event → List (Bool × Refusal)
causes_by g Opened = (nat_le max_connections g.open_count, refusal.TooManyConnections) ∷ []
causes_by g (Arrived conn request) =
    no_such_connection g conn ∷ finishing_cause g conn ∷ (nat_le max_unwritten (g.left conn), refusal.Crowded) ∷ []
causes_by g (Finished conn) = no_such_connection g conn ∷ finishing_cause g conn ∷ []
causes_by g (Taken host) = no_such_host g host ∷ (g.waiting host == 0, refusal.NothingWaiting) ∷ []
causes_by g (Answered host e value t) =
    no_such_host g host ∷ (not (is_plain_tree (tree_of value)), refusal.NotPlain) ∷ stale_cause g host e
    ∷ (g.flying host == 0, refusal.Unasked) ∷ []
causes_by g (Failed host e kind t) = no_such_host g host ∷ stale_cause g host e ∷ []
causes_by g (Swept t) = []
causes_by g (Handed conn) =
    no_such_connection g conn ∷ (not (g.is_ready conn), refusal.NotReady (g.left conn)) ∷ []
causes_by g (Closed conn) = no_such_connection g conn ∷ []

-- the same after a past
abbrev pub causes : Setting → Past → Event → List (Bool × Refusal)
causes S past event = causes_by (grounds_of S past) event

-- the first of them that holds
abbrev pub own_cause : Setting → Past → Event → Option Refusal
own_cause S past event = first_true (causes S past event)
