use Rattle.std.proofs.Common.{◌∙◌, ◌++◌, ap, sym, subst}
use Rattle.proxy_history.specs.Past.{marks_in}
use Rattle.proxy_history.specs.Hosts.{HasHost}
use Rattle.test_reference.specs.Scan.{history_of}
use Rattle.test_reference.proofs.ReplayLemmas.{shows-grown}
use Rattle.test_reference.proofs.replay.grow.Goals as goal

pub returns-clause-shows : goal.returns-clause-shows
returns-clause-shows c = λ S s ring event hosts shows.
    let r = c.args.replay.now in
    let H = history_of c.args.steps.now in
    shows-grown S c.args.steps.now s c.args.event.now r _ c.in_ok-parts.parts.items c.in_ok-sent.sent.items event shows
    (c.in_ok-parts.ensures S (marks_in S H) ring (sym shows.rules) shows.state)
    c.in_ok-sent.ensures
    (c.in_ok-append.ensures.items ∙ ap (λ z. z.items ++ c.in_ok-parts.parts.items) c.take_mark.ensures.parts)
    (c.in_ok-append-2.ensures.items ∙ ap (λ z. z.items ++ c.in_ok-sent.sent.items) c.take_mark.ensures.sent)
    c.take_mark.ensures.rules
    (c.in_ok-take_mark.ensures.state (subst (λ n. HasHost n c.args.event.now) (sym c.hosts.ensures.value) hosts))
