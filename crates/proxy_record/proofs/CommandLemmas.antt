-- The words of a command, as lines have them.
use Rattle.std.proofs.Common.{◌≡◌, ℕ, true, List, Some, map, ap, ◌∙◌}
use Rattle.resp_core.specs.Tree.{Tree, list, trees_of}
use Rattle.resp_core.specs.Command.{is_command, payload_of, words_of}
use Rattle.resp_core.proofs.CallerLemmas.{words_of-list}
use Rattle.proxy_record.specs.Values.{words_text}
use Rattle.proxy_record.specs.Requests.{asked_text}
use Rattle.proxy_record.specs.Answers.{sent_text}
use Rattle.proxy_record.specs.declared.payloads.Payloads.{Payloads}

words_in : (t : Tree) (ws : List Tree) → t ≡ list (trees_of ws) → words_of t ≡ map payload_of ws
words_in t ws is = ap words_of is ∙ words_of-list ws

-- a command that was asked
pub asked_command : (p : Payloads) (t : Tree) (ws : List Tree) → is_command t ≡ true → t ≡ list (trees_of ws)
    → asked_text p t ≡ words_text p (map payload_of ws)
asked_command p t ws command is = rw command (ap (words_text p) (words_in t ws is))

-- a command that was sent
pub sent_command : (p : Payloads) (bytes : List ℕ) (t : Tree) (ws : List Tree) → is_command t ≡ true → t ≡ list (trees_of ws)
    → sent_text p bytes (Some t) ≡ words_text p (map payload_of ws)
sent_command p bytes t ws command is = rw command (ap (words_text p) (words_in t ws is))
