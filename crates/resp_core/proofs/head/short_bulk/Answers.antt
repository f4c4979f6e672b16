use Rattle.std.proofs.Common.{◌≡◌, ◌∷◌, arith}
use Rattle.resp_core.specs.declared.head.Next.TheVariants as nexts
use Rattle.resp_core.specs.declared.head.Found.TheVariants as founds
use Rattle.resp_core.proofs.unfinished.HeadLemmas.{behind_bulk_type}
use Rattle.resp_core.proofs.head.short_bulk.Goals as goal

pub returns-in-Payload-clause-gives : goal.returns-in-Payload-clause-gives
returns-in-Payload-clause-gives c =
    let e : c.args.bytes.now ≡ 36 ∷ c.in_ok-first.rest.now = grind (arith, c.in_ok-first.ensures.cases, c.if-first-ne36.false) in
    behind_bulk_type c.args.most c.args.left (nexts.Found (founds.Payload c.in-Payload.n)) c.args.bytes.now c.in_ok-first.rest.now c.in_ok-found.len e (rw c.in-Payload.is at c.in_ok-found.ensures.gives)
