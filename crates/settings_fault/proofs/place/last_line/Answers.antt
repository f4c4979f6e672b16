use Rattle.std.proofs.Common.{◌≡◌, length, arith}
use Rattle.settings_fault.proofs.PlaceLemmas.{after_last_is}
use Rattle.settings_fault.proofs.place.last_line.Goals as goal

pub returns : goal.returns
returns c =
    let last : c.loop-at.at ≡ length c.args.text.now = omega arith in
    after_last_is c.args.text.now c.loop-at.start (omega arith) (λ k from below. c.loop-at.invariant.no_break k from (omega arith)) c.loop-at.invariant.broken
