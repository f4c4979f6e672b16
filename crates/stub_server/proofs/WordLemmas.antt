-- The outcome of a command, by its words.
use Rattle.std.proofs.Common.{◌≡◌, true, List, map, ap, ◌∙◌}
use Rattle.resp_core.specs.Tree.{Tree}
use Rattle.resp_core.specs.Command.{payload_of, is_command, words_of, IsArrayOf}
use Rattle.resp_core.proofs.CallerLemmas.{words_of-list}
use Rattle.stub_server.specs.Map.{Map}
use Rattle.stub_server.specs.Table.{outcome_of, outcome_of_words}

-- the outcome of a request is that of its words
pub outcome_of-command : (m : Map) (t : Tree) (ts : List Tree) → is_command t ≡ true → IsArrayOf ts t → outcome_of m t ≡ outcome_of_words m (map payload_of ts)
outcome_of-command m t ts h e =
    let words : words_of t ≡ map payload_of ts = ap words_of e ∙ words_of-list ts in
    rw h (ap (outcome_of_words m) words)
