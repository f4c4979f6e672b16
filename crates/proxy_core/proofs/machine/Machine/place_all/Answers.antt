use Rattle.std.proofs.Common.{◌≡◌, ◌<◌, ◌∷◌, ◌++◌, [], ℕ, Some, length, map, refl, sym, ap, ◌∙◌, subst, arith}
use Rattle.std.specs.Vec.Iter.{into_iter_items}
use Rattle.std.proofs.lemmas.Grind.{common_steps}
use Rattle.std.proofs.lemmas.List.{length-append}
use Rattle.std.proofs.lemmas.List.FromFn.{length-map-range_with_len}
use Rattle.ketama.specs.Key.{point_of}
use Rattle.ketama.specs.Owner.{owner_of}
use Rattle.ejector.specs.State.{hosts_of}
use Rattle.ejector.specs.UsableHosts.{is_usable}
use Rattle.proxy_history.specs.Arrival.{usable_flags, host_for}
use Rattle.proxy_history.specs.Waiting.{waiting_parts}
use Rattle.proxy_core.specs.Places.{counted_at, next_place}
use Rattle.proxy_core.specs.declared.state.place.Placed.{Placed}
use Rattle.proxy_core.specs.Pipelines.{pipeline_at}
use Rattle.proxy_core.specs.Machine.{setting_in, memory_in}
use Rattle.proxy_core.proofs.arrivals.PlaceLemmas.{AreSoFar, one_more, counted_more, all_placed, within_hosts}
use Rattle.proxy_core.proofs.machine.Machine.place_all.Goals as goal

pub place_one-requires : goal.place_one-requires
place_one-requires c =
    let m = c.args.self.now in
    record {
      pipelines = c.requires.pipelines ∙ c.requires.hosts;
      usable = ap length c.requires.usable ∙ length-map-range_with_len (is_usable m.ejector.rules m.ejector.state) 0 m.ejector.rules.hosts ∙ c.requires.hosts;
      counts = c.loop-plan.invariant.counted.as_many;
    }

pub loop-plan-preserved : goal.loop-plan-preserved
loop-plan-preserved c =
    let m = c.args.self.now in
    let S = setting_in m in
    let pipelines = (memory_in m).pipelines in
    let p = c.in-Some.plan in
    let rest = into_iter_items c.next.new.self in
    let steps = (c.in-Some.ensures.steps).0 in
    let placed = c.loop-plan.placed.items in
    let counts = c.loop-plan.counts in
    let host = owner_of m.ring.pairs (point_of p.key m.ejector.rules.settings.tags) c.args.usable.now in
    let within : (h : ℕ) → host ≡ Some h → h < length pipelines = within_hosts host (length pipelines) c.place_one.ensures.host in
    let number : c.len-number.result ≡ length placed = c.len-number.ensures ∙ c.loop-plan.placed.ok.0 in
    let part : Placed = record { number = length placed; place = next_place pipelines counts host; text = p.text } in
    let is : c.place_one.result ≡ part = c.place_one.ensures.placed ∙ ap (λ n. record { number = n; place = next_place pipelines counts host; text = p.text }) number in
    let items : c.push_reserved.new.self.items ≡ placed ++ part ∷ [] = c.push_reserved.ensures.items ∙ ap (λ q. placed ++ q ∷ []) is in
    let more : c.place_one.new.counts ≡ counted_at part.place counts = c.place_one.ensures.counts ∙ ap (λ (q : Placed). counted_at q.place counts) is in
    record {
      left = omega (arith, ap length items, length-append placed (part ∷ []), c.loop-plan.invariant.left, ap length steps);
      places = omega (arith, c.loop-plan.invariant.places, c.push_reserved.ensures.capacity);
      counted = rw (items, more) (counted_more pipelines counts placed host part within refl c.loop-plan.invariant.counted);
      placed = λ x conn command tells.
          let known : usable_flags S x ≡ c.args.usable.now = ap (λ z. map (is_usable m.ejector.rules z) (hosts_of m.ejector.rules)) (sym tells.state_is) ∙ sym c.requires.usable in
          let its : host_for S x p.key ≡ host = ap (owner_of m.ring.pairs (point_of p.key m.ejector.rules.settings.tags)) known in
          let so_far = subst (λ z. AreSoFar S x conn command c.args.list placed z) steps (c.loop-plan.invariant.placed x conn command tells) in
          let of_host : (h : ℕ) → h < length pipelines → length (pipeline_at h pipelines).waiting ≡ length (waiting_parts h x) =
          λ h l. tells.waiting_are h (omega (arith, l, c.requires.pipelines)) in
          rw items (one_more S x conn command c.args.list placed p rest pipelines counts host its within of_host c.loop-plan.invariant.counted so_far);
    }

pub returns : goal.returns
returns c =
    let none_left : length (into_iter_items c.loop-plan.plan-iterator) ≡ 0 = grind (arith, common_steps) in
    record {
      placed = λ x conn command tells.
          all_placed (setting_in c.args.self.now) x conn command c.args.list c.loop-plan.placed.items (into_iter_items c.loop-plan.plan-iterator) (grind (arith, common_steps))
          (c.loop-plan.invariant.placed x conn command tells);
      counted = c.loop-plan.invariant.counted;
      parts = omega (arith, c.loop-plan.invariant.left, none_left);
    }
