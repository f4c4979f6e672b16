use Rattle.std.proofs.Common.{List, ℕ}
use Rattle.proxy_stats.specs.declared.refused_names.RefusedName.{RefusedName}
use Rattle.proxy_pages.specs.Pages.{refused_name_text}
use Rattle.proxy_pages.proofs.TextLemmas.{concat_more, grown}
use Rattle.proxy_pages.proofs.metrics.push_places.Goals as goal

pub loop-place-preserved : goal.loop-place-preserved
loop-place-preserved c =
    let text : RefusedName → List ℕ = refused_name_text c.args.name.now in
    grown _ _ _ _ _ _ c.loop-place.invariant c.in_ok-push_place.ensures (concat_more text c.args.places.now c.loop-place.place-index _ c.loop-place-test.true)
