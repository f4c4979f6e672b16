use Rattle.std.proofs.Common.{◌++◌, sym, ap, ◌∙◌}
use Rattle.std.proofs.lemmas.Result.{on_ok_weaker}
use Rattle.resp_core.specs.Value.{tree_of}
use Rattle.proxy_record.specs.Answers.{sent_text}
use Rattle.proxy_record.specs.ReadBack.{found_in}
use Rattle.proxy_record.proofs.CommandLemmas.{sent_command}
use Rattle.proxy_record.proofs.answer_text.push_sent.Goals as goal

pub returns-in-Some-words : goal.returns-in-Some-words
returns-in-Some-words c =
    let command = c.in-Some-words.ensures.command in
    let text = sent_command c.args.payloads.now c.args.text.now (tree_of c.in-Some.value) c.in-Some-words.words.now command.0 command.2 in
    let all = ap (λ f. sent_text c.args.payloads.now c.args.text.now (found_in f)) c.in-Some.is ∙ text in
    on_ok_weaker c.push_words.result (λ e. e ∙ ap (λ z. c.args.line.now.items ++ z) (sym all)) c.push_words.ensures
