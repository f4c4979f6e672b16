use Rattle.std.proofs.Common.{sym, ap, ◌∙◌, ◌<◌, arith}
use Rattle.std.specs.Prelude.{slice_get, vec_items}
use Rattle.std.specs.Option.{option_copied}
use Rattle.journal_core.proofs.BlocksLemmas.{slice_get-full, slice_get-last, slice_get-past}
use Rattle.journal_core.proofs.blocks.Blocks.get.Goals as goal

positive : 0 < 64
positive = omega arith

pub returns-in-Some : goal.returns-in-Some
returns-in-Some g c =
    let found = sym c.element.ensures ∙ ap option_copied c.in-Some.is in
    c.element-in-Some.ensures
    ∙ sym (slice_get-full vec_items 64 positive c.self.inside.full.items c.self.inside.last.items c.in-Some.block.now c.args.i c.self.invariant.0 found)
    ∙ ap (λ s. slice_get s.items c.args.i) c.self.view_is

pub returns-in-None : goal.returns-in-None
returns-in-None g c =
    let counted = c.self.inside.full.ok.0 in
    c.element-in-None.ensures
    ∙ sym (slice_get-last vec_items 64 positive c.self.inside.full.items c.self.inside.last.items c.args.i c.self.invariant.0
    (omega (arith, c.if-i-len.true, c.len.ensures, counted)))
    ∙ ap (λ s. slice_get s.items c.args.i) c.self.view_is

pub returns-in-None-2 : goal.returns-in-None-2
returns-in-None-2 g c =
    let (full, short, _) = c.self.invariant in
    let counted = c.self.inside.full.ok.0 in
    let last_counted = c.self.inside.last.ok.0 in
    sym (slice_get-past vec_items 64 positive c.self.inside.full.items c.self.inside.last.items c.args.i full
    (omega (arith, short, last_counted)) (sym c.element.ensures ∙ ap option_copied c.in-None.is)
    (λ same. c.if-i-len.false (omega (arith, same, c.len.ensures, counted))))
    ∙ ap (λ s. slice_get s.items c.args.i) c.self.view_is
