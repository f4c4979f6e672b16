use Rattle.std.proofs.lemmas.Result.{on_ok_weaker}
use Rattle.proxy_record.specs.ReadBack.{found_in}
use Rattle.proxy_record.proofs.TextLemmas.{five}
use Rattle.proxy_record.proofs.step_line.push_step.Goals as goal

pub returns : goal.returns
returns c =
    on_ok_weaker c.push_piece-2.result (λ e. record { found = found_in c.in_ok-found.found; read_back = c.in_ok-found.ensures; line = e })
    (five _ _ _ _ _ _ _ _ _ _ _ _ c.in_ok-push_head.ensures c.in_ok-push_event.ensures c.in_ok-push_piece.ensures c.in_ok-push_answer.ensures c.push_piece-2.ensures)
