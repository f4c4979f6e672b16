-- What each part came to.
use Rattle.std.specs.Prelude.{ℕ, Bool, nat_lt, if◌then◌else◌, Option, Some, None, List, zip, find, option_map, codes}
use Rattle.resp_core.specs.Tree.{Tree, fault}
use Rattle.proxy_history.specs.History.{epoch}
use Rattle.proxy_history.specs.Replies.{replies_from}
use Rattle.proxy_history.specs.Part.{Part, Past, is_same}
use Rattle.proxy_history.specs.Waiting.{sent_to}

-- the error of a part whose host failed
abbrev pub upstream_failure : Tree
upstream_failure = fault (codes "upstream failure")

-- the replies of a host in an epoch, each with the part that was sent in its place
abbrev pub replies : ℕ → ℕ → Past → List (Part × Tree)
replies h e past = zip (sent_to h e past) (replies_from h e past.steps)

-- the reply of the host in a part's place
abbrev pub reply_to : Part → ℕ → Past → Option Tree
reply_to p h past = option_map (λ r. r.1) (find (λ r. is_same p r.0) (replies h p.epoch past))

-- a part that waits or flies at a fault is lost
abbrev pub or_lost : Bool → Option Tree → Option Tree
or_lost is_lost (Some v) = Some v
or_lost is_lost None = if is_lost then Some upstream_failure else None

-- the value that a part has of its host
abbrev pub value_at : Past → Part → Option ℕ → Option Tree
value_at past p None = None
value_at past p (Some h) = or_lost (nat_lt p.epoch (epoch h past.steps)) (reply_to p h past)

-- the first value, or else the second
abbrev pub value_or : Option Tree → Option Tree → Option Tree
value_or (Some v) later = Some v
value_or None later = later

-- the value of a part: what it got at once, else the reply in its place, else the failure of its host
abbrev pub value_of : Past → Part → Option Tree
value_of past p = value_or p.local (value_at past p p.host)
