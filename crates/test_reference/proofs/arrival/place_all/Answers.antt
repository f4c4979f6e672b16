use Rattle.std.proofs.Common.{◌≡◌, ◌∙◌, subst, ◌<◌, ◌≤◌, ◌+◌, ap, sym, get_or, length, drop}
use Rattle.std.proofs.lemmas.List.{drop_all}
use Rattle.ketama.specs.Owner.{owner_of}
use Rattle.ketama.specs.Key.{point_of}
use Rattle.proxy_history.specs.History.{accepted_count}
use Rattle.proxy_history.specs.Arrival.{parts_placed, placed_part, with_host, hostless}
use Rattle.test_reference.specs.Scan.{past_of_scan, history_of, part_of, parts_of}
use Rattle.test_reference.proofs.PlacingLemmas.{placing-more, part_of-placed}
use Rattle.test_reference.proofs.arrival.place_all.Goals as goal

pub loop-plan-preserved : goal.loop-plan-preserved
loop-plan-preserved c = λ S marks ring tags us.
    let past = past_of_scan c.args.past.now.steps.now marks c.args.past.now.replay.now in
    let n = accepted_count c.args.conn (history_of c.args.past.now.steps.now) in
    let p = c.plan-item.result in
    let list = c.args.list.now in
    let placed = c.loop-plan.placed.items in
    let part = c.in_ok-part.part in
    let host = c.owner-host.result in
    let same : c.deref-plan-items.result.now ≡ list = cc in
    let owner : host ≡ owner_of c.args.owners.now.ring.now.pairs (point_of p.key c.args.owners.now.tags) c.args.owners.now.usable.now = cc in
    let here : p ≡ get_or list c.loop-plan.plan-index p = c.plan-item.is ∙ ap (λ z. get_or z c.loop-plan.plan-index p) same in
    let inside : c.loop-plan.plan-index < length list = rw (← same) c.loop-plan-test.true in
    let made : part_of part ≡ with_host past (parts_of placed) host (hostless c.args.conn n (length placed) p) =
    subst (λ z. part_of part ≡ with_host past (parts_of z) host (hostless c.args.conn n (length z) p)) c.deref.ensures.value
    (subst (λ z. part_of part ≡ with_host past (parts_of c.deref.result.now) host (hostless c.args.conn z (length c.deref.result.now) p)) c.times-command.ensures c.in_ok-part.ensures) in
    let is_placed : part_of part ≡ placed_part S past c.args.conn n (parts_of placed) p =
    part_of-placed S past c.args.conn n placed p c.args.owners.now.ring.now.pairs c.args.owners.now.tags c.args.owners.now.usable.now host part (ap (λ z. z.pairs) ring) tags us owner made in
    ap (λ z. parts_placed S past c.args.conn n (parts_of z) (drop (c.loop-plan.plan-index + 1) list)) c.in_ok-push.ensures.items
    ∙ placing-more S past c.args.conn n placed part list c.loop-plan.plan-index p inside (is_placed ∙ ap (placed_part S past c.args.conn n (parts_of placed)) here)
    ∙ c.loop-plan.invariant S marks ring tags us

pub returns : goal.returns
returns c = λ S marks ring tags us.
    let past = past_of_scan c.args.past.now.steps.now marks c.args.past.now.replay.now in
    let n = accepted_count c.args.conn (history_of c.args.past.now.steps.now) in
    let list = c.args.list.now in
    let same : c.deref-plan-items.result.now ≡ list = cc in
    let end : length list ≤ c.loop-plan.plan-index = rw (← same) c.loop-plan-test.false in
    ap (parts_placed S past c.args.conn n (parts_of c.loop-plan.placed.items)) (sym (drop_all c.loop-plan.plan-index list end))
    ∙ c.loop-plan.invariant S marks ring tags us
