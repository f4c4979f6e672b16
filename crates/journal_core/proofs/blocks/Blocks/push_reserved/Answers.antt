use Rattle.std.proofs.Common.{[], ◌∷◌, ◌++◌, sym, ap, ◌∙◌, append_assoc}
use Rattle.std.specs.Prelude.{flat_map, vec_items}
use Rattle.journal_core.proofs.blocks.Blocks.push_reserved.Goals as goal

pub returns : goal.returns
returns g c =
    let full = flat_map vec_items c.self.inside.full.items in
    ap (λ last. full ++ last) c.push_reserved.ensures.items ∙ sym (append_assoc full c.self.inside.last.items (c.args.value ∷ []))
    ∙ ap (λ s. s.items ++ c.args.value ∷ []) c.self.view_is
