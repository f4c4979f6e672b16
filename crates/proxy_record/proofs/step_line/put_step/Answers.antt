use Rattle.std.proofs.Common.{◌++◌, ap, ◌∙◌}
use Rattle.std.proofs.lemmas.Result.{on_ok_weaker}
use Rattle.proxy_record.proofs.step_line.put_step.Goals as goal

pub returns-clause-ok : goal.returns-clause-ok
returns-clause-ok c =
    let step = rw c.new-line.ensures.items at c.in_ok-push_step.ensures in
    on_ok_weaker c.append.result (λ e. record { found = step.found; read_back = step.read_back; line = e ∙ ap (λ z. c.args.out.now.items ++ z) step.line }) c.append.ensures.ok
