-- Which parts wait, which were sent, and how many of these fly.
use Rattle.std.specs.Prelude.{ℕ, Bool, ◌-◌, ◌&&◌, not, List, [], ◌∷◌, length, filter}
use Rattle.std.specs.List.{list_any}
use Rattle.proxy_history.specs.History.{epoch, is_closed}
use Rattle.proxy_history.specs.Replies.{replies_from}
use Rattle.proxy_history.specs.Part.{Part, Past, is_same, is_of}
use Rattle.proxy_history.specs.declared.event.Event.{Event}
use Rattle.proxy_history.specs.declared.event.Event.TheVariants.{Taken}

-- whether it waits: it came after the host's last fault, was not sent, and its connection is open
abbrev pub waits : ℕ → Past → Part → Bool
waits h past p = is_of h (epoch h past.steps) p && not (list_any (is_same p) past.sent) && not (is_closed p.conn past.steps)

-- the parts that wait for a host, the oldest first
abbrev pub waiting_parts : ℕ → Past → List Part
waiting_parts h past = filter (waits h past) past.parts

-- the parts sent to a host in an epoch, in order
abbrev pub sent_to : ℕ → ℕ → Past → List Part
sent_to h e past = filter (is_of h e) past.sent

-- how many of the parts sent to a host in its present epoch have no reply
abbrev pub flying_count : ℕ → Past → ℕ
flying_count h past = let e = epoch h past.steps in length (sent_to h e past) - length (replies_from h e past.steps)

-- the first of some parts
abbrev pub first : List Part → List Part
first [] = []
first (p ∷ _) = p ∷ []

-- who is sent by an event: the first that waits
abbrev pub sent_by : Past → Event → List Part
sent_by past (Taken host) = first (waiting_parts host past)
sent_by past _ = []
