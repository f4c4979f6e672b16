-- An event, as a line has it.
use Rattle.std.specs.Prelude.{ℕ, Bool, List, [], ◌∷◌, ◌++◌, codes, decimal, if◌then◌else◌}
use Rattle.std.specs.List.{concat}
use Rattle.resp_core.specs.Value.{tree_of}
use Rattle.splitter.specs.Request.{request_of}
use Rattle.proxy_history.specs.declared.event.Kind.{Kind}
use Rattle.proxy_history.specs.declared.event.Event.{Event}
use Rattle.proxy_history.specs.declared.event.Event.TheVariants.{Opened, Arrived, Finished, Taken, Answered, Failed, Swept, Handed, Closed}
use Rattle.proxy_record.specs.Names.{kind_name}
use Rattle.proxy_record.specs.Values.{value_text}
use Rattle.proxy_record.specs.Requests.{request_text}
use Rattle.proxy_record.specs.declared.payloads.Payloads.{Payloads}

-- a number between two texts
abbrev pub numbered : List ℕ → ℕ → List ℕ → List ℕ
numbered before n behind = concat (before ∷ decimal n ∷ behind ∷ [])

-- the fields of a reply before its value
abbrev pub answered_text : ℕ → ℕ → ℕ → List ℕ
answered_text host epoch t =
    concat (codes "\"Answered\", \"host\": " ∷ decimal host ∷ codes ", \"epoch\": " ∷ decimal epoch ∷ codes ", \"t\": " ∷ decimal t ∷ codes ", \"value\": " ∷ [])

-- a fault
abbrev pub failed_text : ℕ → ℕ → Kind → ℕ → List ℕ
failed_text host epoch kind t =
    concat (codes "\"Failed\", \"host\": " ∷ decimal host ∷ codes ", \"epoch\": " ∷ decimal epoch ∷ codes ", \"kind\": \"" ∷ kind_name kind ∷ codes "\", \"t\": " ∷ decimal t ∷ [])

-- that a socket failed or was broken off
abbrev pub cut_text : Bool → List ℕ
cut_text is_cut = if is_cut then codes ", \"cut\": true" else codes ""

-- the event's name and fields
abbrev pub event_text : Payloads → Bool → Bool → Event → List ℕ
event_text payloads is_sum is_cut Opened = codes "\"Opened\", \"socket\": null"
event_text payloads is_sum is_cut (Arrived conn request) =
    numbered (codes "\"Arrived\", \"conn\": ") conn (codes ", ") ++ request_text payloads (request_of request)
event_text payloads is_sum is_cut (Finished conn) = numbered (codes "\"Finished\", \"conn\": ") conn (codes "")
event_text payloads is_sum is_cut (Taken host) = numbered (codes "\"Taken\", \"host\": ") host (codes "")
event_text payloads is_sum is_cut (Answered host epoch value t) = answered_text host epoch t ++ value_text payloads is_sum (tree_of value)
event_text payloads is_sum is_cut (Failed host epoch kind t) = failed_text host epoch kind t
event_text payloads is_sum is_cut (Swept t) = numbered (codes "\"Swept\", \"t\": ") t (codes "")
event_text payloads is_sum is_cut (Handed conn) = numbered (codes "\"Handed\", \"conn\": ") conn (codes "")
event_text payloads is_sum is_cut (Closed conn) = numbered (codes "\"Closed\", \"conn\": ") conn (cut_text is_cut)
