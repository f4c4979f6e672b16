-- An answer, as a line has it.
use Rattle.std.specs.Prelude.{ℕ, Bool, List, [], ◌∷◌, ◌++◌, codes, decimal, Option, Some, None, if◌then◌else◌}
use Rattle.std.specs.List.{concat}
use Rattle.resp_core.specs.Tree.{Tree}
use Rattle.resp_core.specs.Command.{is_command, words_of}
use Rattle.ejector.specs.declared.answer.Trip.{Trip}
use Rattle.splitter.specs.declared.plans.Local.{Local}
use Rattle.proxy_history.specs.declared.answer.Answer.{Answer}
use Rattle.proxy_history.specs.declared.answer.Answer.TheVariants as answer
use Rattle.proxy_record.specs.Leaves.{leaf}
use Rattle.proxy_record.specs.Names.{local_name, trip_name}
use Rattle.proxy_record.specs.Values.{value_text, words_text}
use Rattle.proxy_record.specs.ReadBack.{IsReadBack}
use Rattle.proxy_record.specs.declared.payloads.Payloads.{Payloads}

-- a text in which no value was found
abbrev pub raw_text : Payloads → List ℕ → List ℕ
raw_text payloads bytes = codes "\"raw\": \"" ++ leaf payloads bytes ++ codes "\""

-- a part's text, by the value that was found in it: the words of a command, or raw
abbrev pub sent_text : Payloads → List ℕ → Option Tree → List ℕ
sent_text payloads bytes None = raw_text payloads bytes
sent_text payloads bytes (Some t) = if is_command t then words_text payloads (words_of t) else raw_text payloads bytes

-- a reply's text, by the value that was found in it
abbrev pub handed_text : Payloads → Bool → List ℕ → Option Tree → List ℕ
handed_text payloads is_sum bytes None = raw_text payloads bytes
handed_text payloads is_sum bytes (Some t) = codes "\"value\": " ++ value_text payloads is_sum t

-- what was accepted
abbrev pub accepted_text : ℕ → Option Local → ℕ → ℕ → ℕ → List ℕ
accepted_text index local count no_host busy =
    concat (codes "\"index\": " ∷ decimal index ∷ codes ", \"local\": " ∷ local_name local ∷ codes ", \"parts\": " ∷ decimal count ∷ codes ", \"no_host\": " ∷ decimal no_host ∷ codes ", \"busy\": " ∷ decimal busy ∷ [])

-- where a part was sent
abbrev pub place_text : ℕ → ℕ → List ℕ
place_text epoch place = concat (codes "\"epoch\": " ∷ decimal epoch ∷ codes ", \"place\": " ∷ decimal place ∷ codes ", " ∷ [])

-- what a result did to its host
abbrev pub trip_text : Trip → List ℕ
trip_text trip = concat (codes "\"trip\": \"" ∷ trip_name trip ∷ codes "\"" ∷ [])

-- what a sweep did
abbrev pub swept_text : ℕ → ℕ → ℕ → List ℕ
swept_text returned ejected kept =
    concat (codes "\"returned\": " ∷ decimal returned ∷ codes ", \"ejected\": " ∷ decimal ejected ∷ codes ", \"kept\": " ∷ decimal kept ∷ [])

-- the answer's fields, by the value that was found in its text
abbrev pub answer_text : Payloads → Bool → Answer → Option Tree → List ℕ
answer_text payloads is_sum (answer.Opened conn) found = concat (codes "\"conn\": " ∷ decimal conn ∷ [])
answer_text payloads is_sum (answer.Accepted index local count no_host busy) found = accepted_text index local count no_host busy
answer_text payloads is_sum answer.Finishing found = []
answer_text payloads is_sum (answer.Sent epoch place text) found = place_text epoch place ++ sent_text payloads text found
answer_text payloads is_sum (answer.Matched trip) found = trip_text trip
answer_text payloads is_sum (answer.Lost count trip) found = concat (codes "\"parts\": " ∷ decimal count ∷ codes ", " ∷ []) ++ trip_text trip
answer_text payloads is_sum (answer.Swept returned ejected kept) found = swept_text returned ejected kept
answer_text payloads is_sum (answer.Bytes text) found = handed_text payloads is_sum text found
answer_text payloads is_sum answer.Closed found = []

-- this value was found in the answer's text, if it has one
abbrev pub IsReadBackIn : Answer → Option Tree → Type 0
IsReadBackIn (answer.Sent epoch place text) found = IsReadBack text found
IsReadBackIn (answer.Bytes text) found = IsReadBack text found
IsReadBackIn _ found = Unit {0}
