use Rattle.std.proofs.Common.{◌++◌, sym, ap, ◌∙◌}
use Rattle.std.proofs.lemmas.Result.{on_ok_weaker}
use Rattle.resp_core.specs.Value.{tree_of}
use Rattle.proxy_record.proofs.CommandLemmas.{asked_command}
use Rattle.proxy_record.proofs.request_text.push_asked.Goals as goal

pub returns-in-Some : goal.returns-in-Some
returns-in-Some c =
    let command = c.in-Some.ensures.command in
    let text = asked_command c.args.payloads.now (tree_of c.args.value.now) c.in-Some.words.now command.0 command.2 in
    on_ok_weaker c.push_words.result (λ e. e ∙ ap (λ z. c.args.line.now.items ++ z) (sym text)) c.push_words.ensures
