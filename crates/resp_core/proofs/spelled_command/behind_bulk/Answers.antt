use Rattle.resp_core.proofs.SpelledCommandLemmas.{short_bulk_is}
use Rattle.resp_core.proofs.spelled_command.behind_bulk.Goals as goal

pub returns-in-Ok : goal.returns-in-Ok
returns-in-Ok c =
    let s = c.in-Ok.field-0-0.now in
    (s, short_bulk_is c.in_ok-len.len c.args.bytes.now c.in_ok-len.rest.now c.in-Ok.rest.now s c.in_ok-len.ensures.line c.in-Ok.ensures)
