use Rattle.std.proofs.Common.{◌≡◌, IfOk, map, sym, ap, ◌∙◌, subst}
use Rattle.resp_core.specs.Value.{tree_of}
use Rattle.resp_core.specs.Command.{payload_of}
use Rattle.stub_server.specs.Table.{Outcome, outcome_of_words}
use Rattle.stub_server.proofs.WordLemmas.{outcome_of-command}
use Rattle.stub_server.proofs.stub.Stub.answer.Goals as goal

pub returns-in-Some-clause-answer : goal.returns-in-Some-clause-answer
returns-in-Some-clause-answer c =
    let (is_command, _, is_array) = c.in-Some.ensures.command in
    let same = ap (λ z. outcome_of_words z.map (map payload_of c.in-Some.words.now)) c.self.view_is ∙ sym (outcome_of-command c.args.self.now.map (tree_of c.args.request.now) c.in-Some.words.now is_command is_array) in
    subst (λ (z : Outcome). IfOk c.answer_words.result (λ answer. tree_of answer ≡ z.answer)) same c.answer_words.ensures.answer

pub returns-in-Some-clause-map : goal.returns-in-Some-clause-map
returns-in-Some-clause-map c =
    let (is_command, _, is_array) = c.in-Some.ensures.command in
    let same = ap (λ z. outcome_of_words z.map (map payload_of c.in-Some.words.now)) c.self.view_is ∙ sym (outcome_of-command c.args.self.now.map (tree_of c.args.request.now) c.in-Some.words.now is_command is_array) in
    subst (λ (z : Outcome). IfOk c.answer_words.result (λ answer. c.answer_words.new.entries.items ≡ z.map)) same c.answer_words.ensures.map
