use Rattle.std.proofs.Common.{sym, ap, ◌∙◌, arith}
use Rattle.resp_core.specs.Tree.{bulk}
use Rattle.resp_core.specs.Text.{text}
use Rattle.resp_core.proofs.PayloadLemmas.{behind_head_is}
use Rattle.resp_core.proofs.payload.Payload.in_text.Goals as goal

pub invariant_of-result : goal.invariant_of-result
invariant_of-result c =
    let (s, is, places) = c.requires in
    (omega (arith, places), is ∙ ap (λ z. text (bulk z)) (sym (behind_head_is c.args.head c.args.text s is places)))

pub returns : goal.returns
returns c = λ s is places. behind_head_is c.args.head c.args.text s is places
