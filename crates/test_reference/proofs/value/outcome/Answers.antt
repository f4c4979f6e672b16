use Rattle.std.proofs.Common.{◌≡◌, [], Some, filter, sym, ap, ◌∙◌}
use Rattle.std.specs.Option.{option_copied}
use Rattle.std.specs.Prelude.{slice_get}
use Rattle.splitter.specs.Plan.{parts}
use Rattle.splitter.specs.Planned.{plan_in}
use Rattle.proxy_history.specs.History.{plan_for, requests}
use Rattle.proxy_history.specs.Outcome.{is_part_of, values_of}
use Rattle.test_reference.specs.Scan.{history_of, parts_of, past_of_scan}
use Rattle.proxy_history.proofs.CallerLemmas.{if_some_may_join, values_may_join}
use Rattle.test_reference.proofs.value.outcome.Goals as goal

pub joined-requires : goal.joined-requires
joined-requires c =
    let (S, shows) = c.requires in
    let H = history_of c.args.steps.now in
    let x = past_of_scan c.args.steps.now [] c.args.replay.now in
    let ps = parts_of c.args.replay.now.parts.items in
    let asked : slice_get (requests c.args.conn H) c.args.index ≡ Some c.in-Some.request.now = sym c.request_at.ensures ∙ ap option_copied c.in-Some.is in
    let planned : plan_for c.in-Some.request.now ≡ parts c.in-Parts.how c.in-Parts.list = sym c.in_ok-value.ensures.plan ∙ ap plan_in c.in-Parts.is in
    if_some_may_join (λ v. v.items) c.in-Parts.how (values_of x (filter (is_part_of c.args.conn c.args.index) ps)) c.in_ok-values-in-Parts.values c.in_ok-values-in-Parts.ensures.values
    (λ ts e. values_may_join S H c.args.conn c.args.index c.in-Some.request.now c.in-Parts.how c.in-Parts.list ps x ts shows.parts asked planned e)
