use Rattle.proxy_pages.proofs.DelayLemmas.{told, too_many, untold}
use Rattle.proxy_pages.proofs.delay.ms_in.Goals as goal

pub returns-in-Ok : goal.returns-in-Ok
returns-in-Ok c =
    let (is, same) = c.in-Ok.ensures.value.0 in
    told c.args.digits.now _ is.0 same c.if-ms-le-MAX_DRAIN_AFTER_MS.true

pub returns-in-Ok-2 : goal.returns-in-Ok-2
returns-in-Ok-2 c =
    let (is, same) = c.in-Ok.ensures.value.0 in
    too_many c.args.digits.now _ is.0 same c.if-ms-le-MAX_DRAIN_AFTER_MS.false

pub returns-in-Err : goal.returns-in-Err
returns-in-Err c = untold c.args.digits.now c.in-Err.ensures.value.0
