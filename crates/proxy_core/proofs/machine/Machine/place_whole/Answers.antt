use Rattle.std.proofs.Common.{◌≡◌, ◌<◌, ◌∷◌, [], ℕ, Some, length, map, refl, sym, ap, ◌∙◌, subst, arith}
use Rattle.std.proofs.lemmas.List.{length-replicate}
use Rattle.std.proofs.lemmas.List.FromFn.{length-map-range_with_len}
use Rattle.ketama.specs.Key.{point_of}
use Rattle.ketama.specs.Owner.{owner_of}
use Rattle.ejector.specs.State.{hosts_of}
use Rattle.ejector.specs.UsableHosts.{is_usable}
use Rattle.splitter.specs.Part.{part_of}
use Rattle.proxy_history.specs.Arrival.{usable_flags, host_for}
use Rattle.proxy_history.specs.Waiting.{waiting_parts}
use Rattle.proxy_core.specs.Places.{AreCounted}
use Rattle.proxy_core.specs.declared.state.place.Place.{Place}
use Rattle.proxy_core.specs.Pipelines.{pipeline_at}
use Rattle.proxy_core.specs.Machine.{setting_in, memory_in}
use Rattle.proxy_core.proofs.arrivals.PlaceLemmas.{one_more, counted_more, none_counted, all_placed, none_so_far, within_hosts}
use Rattle.proxy_core.proofs.machine.Machine.place_whole.Goals as goal

pub place_at-requires : goal.place_at-requires
place_at-requires c =
    let m = c.args.self.now in
    record {
      pipelines = c.requires.pipelines ∙ c.requires.hosts;
      usable = ap length c.all_usable.ensures ∙ length-map-range_with_len (is_usable m.ejector.rules m.ejector.state) 0 m.ejector.rules.hosts ∙ c.requires.hosts;
      counts = ap length c.requires.counts ∙ length-replicate (length m.pipelines.states) 0;
    }

pub returns-clause-placed : goal.returns-clause-placed
returns-clause-placed c = λ x conn command tells.
    let m = c.args.self.now in
    let S = setting_in m in
    let pipelines = (memory_in m).pipelines in
    let p = part_of c.args.key.now c.args.text in
    let usable = c.all_usable.new.usable in
    let host = owner_of m.ring.pairs c.point_of.result usable in
    let within : (h : ℕ) → host ≡ Some h → h < length pipelines = within_hosts host (length pipelines) c.place_at.ensures.host in
    let none : AreCounted pipelines c.args.counts.now [] = subst (λ z. AreCounted pipelines z []) (sym c.requires.counts) (none_counted pipelines (length pipelines) refl) in
    let known : usable_flags S x ≡ usable = ap (λ z. map (is_usable m.ejector.rules z) (hosts_of m.ejector.rules)) (sym tells.state_is) ∙ sym c.all_usable.ensures in
    let its : host_for S x p.key ≡ host = ap (owner_of m.ring.pairs (point_of p.key m.ejector.rules.settings.tags)) known ∙ ap (λ z. owner_of m.ring.pairs z usable) (sym c.point_of.ensures) in
    let of_host : (h : ℕ) → h < length pipelines → length (pipeline_at h pipelines).waiting ≡ length (waiting_parts h x) =
    λ h l. tells.waiting_are h (omega (arith, l, c.requires.pipelines)) in
    ap (λ (place : Place). record { number = 0; place = place; text = c.args.text } ∷ []) c.place_at.ensures.place
    ∙ all_placed S x conn command (p ∷ []) _ [] refl
    (one_more S x conn command (p ∷ []) [] p [] pipelines c.args.counts.now host its within of_host none (none_so_far S x conn command (p ∷ []) [] (p ∷ []) refl refl))

pub returns-clause-counted : goal.returns-clause-counted
returns-clause-counted c =
    let m = c.args.self.now in
    let pipelines = (memory_in m).pipelines in
    let host = owner_of m.ring.pairs c.point_of.result c.all_usable.new.usable in
    let within : (h : ℕ) → host ≡ Some h → h < length pipelines = within_hosts host (length pipelines) c.place_at.ensures.host in
    let none : AreCounted pipelines c.args.counts.now [] = subst (λ z. AreCounted pipelines z []) (sym c.requires.counts) (none_counted pipelines (length pipelines) refl) in
    rw c.place_at.ensures.counts
    (counted_more pipelines c.args.counts.now [] host (record { number = 0; place = c.place_at.result; text = c.args.text }) within c.place_at.ensures.place none)
