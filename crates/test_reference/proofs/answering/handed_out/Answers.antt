use Rattle.std.proofs.Common.{sym, subst}
use Rattle.proxy_history.proofs.CallerLemmas.{IsPlainIfAny}
use Rattle.test_reference.proofs.PlainOutcomeLemmas.{seen_is_plain}
use Rattle.test_reference.proofs.answering.handed_out.Goals as goal

pub put_text-put-requires : goal.put_text-put-requires
put_text-put-requires c =
    let (S, legal, shows) = c.requires in
    let is = rw c.in-Ok-Some.field-0-is at c.in-Ok-Some.ensures.value in
    subst IsPlainIfAny (sym is) (seen_is_plain S c.args.steps.now c.args.replay.now c.args.conn c.times-index.result legal shows)
