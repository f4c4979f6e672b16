use Rattle.std.proofs.Common.{◌≡◌, ◌++◌, drop, map}
use Rattle.resp_core.specs.Command.{payload_of}
use Rattle.proxy_record.specs.Values.{more_words}
use Rattle.proxy_record.proofs.value_text.push_words.Given as goal

-- with the words that are left it is the whole text
abbrev pub invariant-loop-at : goal.invariant-loop-at
invariant-loop-at l =
    l.line.items ++ more_words l.payloads (drop l.at (map payload_of l.words))
    ≡ l.initial.line.items ++ more_words l.payloads (drop 1 (map payload_of l.words))
